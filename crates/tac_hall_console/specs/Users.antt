-- The users of a policy, and what becomes of them where another policy takes its place
-- (docs/CONSOLE.md, "Another policy").
use Rattle.std.specs.Prelude.{ℕ, ◌-◌, List, [], ◌∷◌, ◌++◌, length, filter, codes, Bool, not, ◌&&◌}
use Rattle.std.specs.Prelude.{◌==◌, nat_lt, is_some}
use Rattle.std.specs.List.{list_any}
use Rattle.std.specs.Fmt.{decimal}
use Rattle.pol_names.specs.SubjectId.{same_kind}
use Rattle.pol_names.specs.declared.subject_id.Kind.TheVariants.{User}
use Rattle.pol_text.specs.Policy.{find_subject, id_of}
use Rattle.pol_text.specs.declared.subject.Subject.{Subject}
use Rattle.tac_hall_console.specs.declared.users.Turnover.{Turnover}

unfoldable pub is_user : Subject → Bool
is_user subject = same_kind subject.kind User

abbrev pub has_user : List Subject → Bool
has_user policy = list_any is_user policy

-- a user whom another policy doesn't have, by name
abbrev pub is_gone : List Subject → Subject → Bool
is_gone new subject = is_user subject && not (is_some (find_subject (id_of subject) new))

-- how many users the old policy has, how many of these the new one doesn't have, and how many that
-- has
abbrev pub turnover : List Subject → List Subject → Turnover
turnover old new = record {
  had = length (filter is_user old);
  gone = length (filter (is_gone new) old);
  has = length (filter is_user new);
}

-- there were users, and there is none
abbrev pub shuts_out : Turnover → Bool
shuts_out turnover = nat_lt 0 turnover.had && turnover.has == 0

-- fewer than half of them are there still: more went than stayed
abbrev pub most_are_gone : Turnover → Bool
most_are_gone turnover = nat_lt (turnover.had - turnover.gone) turnover.gone

abbrev pub gone_line : Turnover → List ℕ
gone_line turnover =
    decimal turnover.gone ++ codes " of " ++ decimal turnover.had
    ++ codes " users are gone" ++ 10 ∷ []
