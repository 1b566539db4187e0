use Rattle.std.proofs.Common.{rules, sym, ap, ◌∙◌}
use Rattle.sha_crypt.specs.HashText.{is_digest}
use Rattle.sha_crypt.proofs.SaltFacts.{hash_made, hash_read}
use Rattle.sha_crypt.proofs.hash.hash_with.Goals as goal

pub invariant_of-result : goal.invariant_of-result
invariant_of-result c =
    hash_made c.parts.inside.rounds c.parts.inside.salt.now c.padded.result c.symbols_of.result c.padded.ensures
    (sym c.are_rounds.ensures ∙ c.if-not-are_rounds.false) (sym c.is_salt.ensures ∙ c.if-not-is_salt.false)
    (ap is_digest c.symbols_of.ensures ∙ sym c.is_digest.ensures ∙ c.if-not-is_digest.false)

pub returns : goal.returns
returns c =
    hash_read c.parts.inside.rounds c.parts.inside.salt.now c.padded.result c.symbols_of.result c.padded.ensures
    (sym c.are_rounds.ensures ∙ c.if-not-are_rounds.false) (sym c.is_salt.ensures ∙ c.if-not-is_salt.false)
    (ap is_digest c.symbols_of.ensures ∙ sym c.is_digest.ensures ∙ c.if-not-is_digest.false)
    c.args.parts.now (search rules)
