-- A level in decimal digits is read again.
use Rattle.std.proofs.Common.{◌≡◌, ℕ, zero, suc, true, Some, nat_le, refl, arith}
use Rattle.std.proofs.lemmas.Bool.Decides.{nat_tests}
use Rattle.std.specs.Fmt.{decimal, digits}
use Rattle.basics.specs.Symbol.{is_text}
use Rattle.pol_text.specs.Text.{is_field, level_of}

pub record ReadAgain (level : ℕ) : Type 0 where
  pub text : is_text (decimal level) ≡ true
  pub field : is_field (decimal level) ≡ true
  pub read : level_of (decimal level) ≡ Some level

pub level_read : (level : ℕ) → nat_le level 15 ≡ true → ReadAgain level
unfolding digits
level_read zero h = record { text = refl; field = refl; read = refl }
level_read (suc zero) h = record { text = refl; field = refl; read = refl }
level_read (suc (suc zero)) h = record { text = refl; field = refl; read = refl }
level_read (suc (suc (suc zero))) h = record { text = refl; field = refl; read = refl }
level_read (suc (suc (suc (suc zero)))) h = record { text = refl; field = refl; read = refl }
level_read (suc (suc (suc (suc (suc zero))))) h = record { text = refl; field = refl; read = refl }
level_read (suc (suc (suc (suc (suc (suc zero)))))) h = record { text = refl; field = refl; read = refl }
level_read (suc (suc (suc (suc (suc (suc (suc zero))))))) h = record { text = refl; field = refl; read = refl }
level_read (suc (suc (suc (suc (suc (suc (suc (suc zero)))))))) h = record { text = refl; field = refl; read = refl }
level_read (suc (suc (suc (suc (suc (suc (suc (suc (suc zero))))))))) h = record { text = refl; field = refl; read = refl }
level_read (suc (suc (suc (suc (suc (suc (suc (suc (suc (suc zero)))))))))) h = record { text = refl; field = refl; read = refl }
level_read (suc (suc (suc (suc (suc (suc (suc (suc (suc (suc (suc zero))))))))))) h = record { text = refl; field = refl; read = refl }
level_read (suc (suc (suc (suc (suc (suc (suc (suc (suc (suc (suc (suc zero)))))))))))) h = record { text = refl; field = refl; read = refl }
level_read (suc (suc (suc (suc (suc (suc (suc (suc (suc (suc (suc (suc (suc zero))))))))))))) h = record { text = refl; field = refl; read = refl }
level_read (suc (suc (suc (suc (suc (suc (suc (suc (suc (suc (suc (suc (suc (suc zero)))))))))))))) h = record { text = refl; field = refl; read = refl }
level_read (suc (suc (suc (suc (suc (suc (suc (suc (suc (suc (suc (suc (suc (suc (suc zero))))))))))))))) h = record { text = refl; field = refl; read = refl }
level_read (suc (suc (suc (suc (suc (suc (suc (suc (suc (suc (suc (suc (suc (suc (suc (suc n)))))))))))))))) h = absurd (grind (arith, nat_tests))
