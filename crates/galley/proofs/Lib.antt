pub mod Left
pub mod Loading
pub mod Taking
pub mod Writing
pub mod Standing
pub mod LaidOut
pub mod Shapes
pub mod Splicing
