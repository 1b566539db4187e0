-- What is heard line by line is what is heard of the whole answer.
use Rattle.std.proofs.Common.{◌≡◌, ◌∷◌, [], ℕ, Bool, true, false, List, refl, ◌∙◌, if◌then◌else◌}
use Rattle.tac_console_client.specs.Hearing.{is_note, is_refusal, worse, heard_of, after_all, HearsAnswers}
use Rattle.tac_console_client.specs.declared.heard.Heard.{Heard}
use Rattle.tac_console_client.specs.declared.heard.Heard.TheVariants.{Well, Unkept, Refused}
use Rattle.tac_console_client.specs.declared.heard.Listening.{Listening}

-- nothing more is told
closed : (heard : Heard) (lines : List (List ℕ)) → (after_all (record { heard = heard; is_open = false }) lines).heard ≡ heard
closed heard [] = refl
closed heard (line ∷ rest) = closed heard rest

-- one line more, of which the tests are known
step : (rest : List (List ℕ)) (note refusal : Bool) (heard : Heard)
    → (after_all (record { heard = Unkept; is_open = true }) rest).heard ≡ worse (heard_of rest) Unkept
    → (after_all (if note then record { heard = Unkept; is_open = true } else record { heard = if refusal then Refused else heard; is_open = false }) rest).heard
    ≡ (if note then worse (heard_of rest) Unkept else if refusal then Refused else heard)
step rest true refusal heard later = later
step rest false true heard later = closed Refused rest
step rest false false heard later = closed heard rest

twice : (note refusal : Bool) (heard : Heard)
    → (if note then worse heard Unkept else if refusal then Refused else Unkept)
    ≡ worse (if note then worse heard Unkept else if refusal then Refused else Well) Unkept
twice true refusal Well = refl
twice true refusal Unkept = refl
twice true refusal Refused = refl
twice false true heard = refl
twice false false heard = refl

-- after a note
noted : (lines : List (List ℕ)) → (after_all (record { heard = Unkept; is_open = true }) lines).heard ≡ worse (heard_of lines) Unkept
noted [] = refl
noted (line ∷ rest) =
    step rest (is_note line) (is_refusal line) Unkept (noted rest) ∙ twice (is_note line) (is_refusal line) (heard_of rest)

pub hears : HearsAnswers
hears [] = refl
hears (line ∷ rest) = step rest (is_note line) (is_refusal line) Well (noted rest)
