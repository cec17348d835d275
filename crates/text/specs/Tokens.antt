-- The tokens of a text.
--   listed   they, in the order of the text
use Rattle.std.specs.Prelude.{List}
use Rattle.text.specs.declared.token.Token.{Token}
use Rattle.text.specs.declared.token.Tokens.{Tokens}

abbrev pub listed : Tokens → List Token
listed ts = ts.list.items
