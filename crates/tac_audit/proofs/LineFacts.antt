-- The line of what is noted of a notice.
use Rattle.std.proofs.Common.{◌≡◌, ℕ, List, ◌++◌, true, false, Option, Some, None, append_assoc, codes, refl, sym, ap, ◌∙◌}
use Rattle.std.specs.Prelude.{is_some}
use Rattle.tac_audit.specs.declared.event.Origin.{Origin}
use Rattle.tac_audit.specs.Json.{text_json, member}
use Rattle.tac_audit.specs.Event.{begun, origin_json, session_digits, told_json, ended}
use Rattle.tac_audit.specs.Told.{Told}
use Rattle.tac_audit.specs.Noted.{noted, AddsTold, AddsLine}

-- where nothing is told, nothing is added
pub none_told : (time : Option (List ℕ)) (origin : Origin) (session : ℕ) (told : Option Told) (old : List ℕ) → is_some told ≡ false → AddsLine time origin old old (noted session told)
none_told time origin session None old none = refl
none_told time origin session (Some told) old none = absurd cc

in_line : (old head told end : List ℕ) → ((old ++ head) ++ told) ++ end ≡ old ++ (head ++ told ++ end)
in_line old head told end =
    append_assoc (old ++ head) told end ∙ append_assoc old head (told ++ end) ∙ ap (λ (l : List ℕ). old ++ l) (sym (append_assoc head told end))

-- a head, what is told, and an end are a line
pub head_told_end : (time : Option (List ℕ)) (origin : Origin) (session : ℕ) (told : Option Told) (old head mid new : List ℕ)
    → is_some told ≡ true
    → head ≡ old ++ (begun time ++ origin_json origin ++ member (codes "session") (text_json (session_digits session)))
    → AddsTold head mid told → new ≡ mid ++ ended → AddsLine time origin old new (noted session told)
head_told_end time origin session None old head mid new some h t e = absurd cc
head_told_end time origin session (Some told) old head mid new some h t e =
    e ∙ ap (λ (l : List ℕ). l ++ ended) (t ∙ ap (λ (l : List ℕ). l ++ told_json told) h)
    ∙ in_line old (begun time ++ origin_json origin ++ member (codes "session") (text_json (session_digits session))) (told_json told) ended
