-- `word` meets its contract: eight octets, high octet first, are std's number of them.
use Rattle.std.proofs.Common.{◌∙◌, rules}
use Rattle.identifier.specs.laws.Word.{eight_be, eight_octets, word_is, word_octets}
use Rattle.identifier.proofs.word.Goals as goal

pub returns : goal.returns
returns c = (
  word_is c.args.a c.args.i c.from_be_bytes.result (search rules) c.requires (c.from_be_bytes.ensures ∙ eight_be _ _ _ _ _ _ _ _),
  word_octets c.args.a c.args.i (search rules) c.requires
      (eight_octets _ _ _ _ _ _ _ _ (search rules) (search rules) (search rules) (search rules) (search rules) (search rules) (search rules) (search rules)),
)
