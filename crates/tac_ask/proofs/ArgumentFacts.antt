-- The arguments of a line are added one after another.
use Rattle.std.proofs.Common.{◌≡◌, ℕ, List, [], ◌∷◌, ◌++◌, length, map, codes, Result, Ok, Err, sym, ap, ◌∙◌, append_assoc, arith}
use Rattle.std.specs.Prelude.{OnOk}
use Rattle.tac_ask.specs.Arguments.{shell_service, command_arguments}

pub shell_added : {X E : Type 0} → (r : Result X E) (old one new words : List (List ℕ)) → length words ≡ 0 → one ≡ old ++ shell_service ∷ [] → OnOk r (new ≡ one ++ codes "cmd=" ∷ [])
    → OnOk r (new ≡ old ++ command_arguments words)
shell_added (Ok x) old one new [] none e f =
    f ∙ ap (λ (l : List (List ℕ)). l ++ codes "cmd=" ∷ []) e ∙ append_assoc old (shell_service ∷ []) (codes "cmd=" ∷ [])
shell_added (Ok x) old one new (word ∷ words) none e f = absurd (omega arith)
shell_added (Err fault) old one new words none e f = tt

joined : (old rest : List (List ℕ)) (shell command : List ℕ) → ((old ++ shell ∷ []) ++ command ∷ []) ++ rest ≡ old ++ shell ∷ command ∷ rest
joined old rest shell command = simp append_assoc

pub line_added : {X E : Type 0} → (r : Result X E) (old one two new words rest : List (List ℕ)) (command : List ℕ) → words ≡ command ∷ rest → one ≡ old ++ shell_service ∷ [] → two ≡ one ++ (codes "cmd=" ++ command) ∷ []
    → OnOk r (new ≡ two ++ map (λ it. codes "cmd-arg=" ++ it) rest) → OnOk r (new ≡ old ++ command_arguments words)
line_added (Ok x) old one two new words rest command w e f g =
    let more : List (List ℕ) = map (λ it. codes "cmd-arg=" ++ it) rest in
    g ∙ ap (λ (l : List (List ℕ)). l ++ more) (f ∙ ap (λ (l : List (List ℕ)). l ++ (codes "cmd=" ++ command) ∷ []) e)
    ∙ joined old more shell_service (codes "cmd=" ++ command) ∙ ap (λ (l : List (List ℕ)). old ++ command_arguments l) (sym w)
line_added (Err fault) old one two new words rest command w e f g = tt
