-- The tally of a user, and that of a group, which must be there.
use Rattle.std.proofs.Common.{◌≡◌, ℕ, List, true, false, is_some, Option, Some, None, Ok, Err, Bor, refl, sym, ap}
use Rattle.std.specs.Option.{option_copied}
use Rattle.pol_text.specs.Policy.{find_subject}
use Rattle.pol_names.specs.declared.subject_id.Kind.{Kind}
use Rattle.pol_names.specs.declared.subject_id.Kind.TheVariants.{Group, User}
use Rattle.pol_text.specs.declared.subject.Subject.{Subject}
use Rattle.tac_tally.specs.Tally.{tally_of, group_tally_of}
use Rattle.tac_desk.specs.Meaning.{Meaning}
use Rattle.tac_desk.specs.Reporting.{entries, tally_at}
use Rattle.tac_desk.specs.declared.query.QueryFault.TheVariants.{NoSuch}

-- a look-up found something, or nothing
looked_up : (found : Option (Bor Subject)) (subject : Option Subject) → option_copied found ≡ subject → is_some subject ≡ is_some found
looked_up None subject e = ap is_some (sym e)
looked_up (Some here) subject e = ap is_some (sym e)

-- that of a user, who needn't be there
pub user_there : (meaning : Meaning) (name : List ℕ) (kind : Kind) → kind ≡ User → tally_at meaning kind name ≡ Ok (tally_of name (entries meaning))
user_there meaning name User e = refl
user_there meaning name Group e = absurd cc

module _ (meaning : Meaning) (name : List ℕ) (found : Option (Bor Subject)) where
  pub absent : (kind : Kind) → kind ≡ Group → option_copied found ≡ find_subject (record { kind = kind; name = name }) meaning.policy → is_some found ≡ false
      → tally_at meaning kind name ≡ Err NoSuch
  absent Group e look none = rw (looked_up found _ look, none) refl
  absent User e look none = absurd cc

  pub there : (kind : Kind) → kind ≡ Group → option_copied found ≡ find_subject (record { kind = kind; name = name }) meaning.policy → is_some found ≡ true
      → tally_at meaning kind name ≡ Ok (group_tally_of meaning.policy name (entries meaning))
  there Group e look some = rw (looked_up found _ look, some) refl
  there User e look some = absurd cc
