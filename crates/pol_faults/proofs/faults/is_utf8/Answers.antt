use Rattle.std.proofs.Common.{◌≡◌, ℕ, Bool, true, false, List, Result, Ok, Err, refl, sym}
use Rattle.std.specs.Prelude.{MatchResult}
use Rattle.std.specs.Result.{is_ok}
use Rattle.std.specs.Str.{is_utf8, IsUtf8}
use Rattle.std.proofs.lemmas.Str.{is_utf8-from_IsUtf8, IsUtf8-from_is_utf8}
use Rattle.pol_faults.proofs.faults.is_utf8.Goals as goal

refused : (text : List ℕ) (test : Bool) → is_utf8 text ≡ test → ¬ (IsUtf8 text) → false ≡ test
refused text true e not_so = absurd (not_so (IsUtf8-from_is_utf8 text e))
refused text false e not_so = refl

told : {X E : Type 0} (P : X → Type 0) (Q : E → Type 0) (text : List ℕ) (read : Result X E) → MatchResult read (λ x. P x × IsUtf8 text) (λ e. ¬ (IsUtf8 text) × Q e) → is_ok read ≡ is_utf8 text
told P Q text (Ok x) is = sym (is_utf8-from_IsUtf8 text is.1)
told P Q text (Err e) is = refused text (is_utf8 text) refl is.0

pub returns : goal.returns
returns c = rw c.is_ok.ensures.value (told _ _ c.args.line.now c.from_utf8.result c.from_utf8.ensures.cases)
