-- What a witness was told, one notice after another.
use Rattle.std.specs.Prelude.{◌≡◌, List, [], ◌∷◌}

-- it took these notices, each by such a step, and no others
abbrev pub AreTold : {W T : Type 0} → (W → T → W → Type 0) → W → List T → W → Type 0
AreTold takes was [] now = now ≡ was
AreTold {W} takes was (notice ∷ notices) now =
    (then : W) × takes was notice then × AreTold takes then notices now
