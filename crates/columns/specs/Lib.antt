pub mod Relation
pub mod Mask
pub mod Signs
