-- Steps of a reading, from what they gave.
use Rattle.std.proofs.Common.{◌≡◌, Bool, true, false, cond, Option, Some, None, Result, Ok, Err, option_and_then, refl, inl, inr, ◌⊎◌}
use Rattle.std.specs.Option.{option_map_or}
use Rattle.pol_pattern.specs.declared.fault.PatternFault.{PatternFault}
use Rattle.pol_pattern.specs.Reading.{◌>>=◌}

pub chosen : {A : Type 0} (b : Bool) (x y z : A) → cond b x y ≡ z → ((b ≡ true) × (x ≡ z)) ⊎ ((b ≡ false) × (y ≡ z))
chosen true x y z e = inl (refl, e)
chosen false x y z e = inr (refl, e)

-- the value of a step that did not fail
pub bind_ok : {A B : Type 0} (r : Result A PatternFault) (f : A → Result B PatternFault) (y : B) → (r >>= f) ≡ Ok y → (x : A) × (r ≡ Ok x) × (f x ≡ Ok y)
bind_ok (Ok x) f y e = (x, refl, e)
bind_ok (Err fault) f y e = absurd cc

-- values where antt cannot tell the other type
abbrev pub done : {A : Type 0} → A → Result A PatternFault
done x = Ok x

pub ok_is : {A : Type 0} (x y : A) → done x ≡ done y → x ≡ y
ok_is x y e = cc

pub refused : {A : Type 0} (fault : PatternFault) (x : A) → Err fault ≡ done x → ⊥
refused fault x e = cc

abbrev pub given : {A : Type 0} → A → Option A
given x = Some x

pub some_is : {A : Type 0} (x y : A) → given x ≡ given y → x ≡ y
some_is x y e = cc

pub none_is : {A : Type 0} (y : A) → None ≡ given y → ⊥
none_is y e = cc

pub then_some : {A B : Type 0} (f : A → Option B) (o : Option A) (y : B) → option_and_then f o ≡ Some y → (x : A) × (o ≡ Some x) × (f x ≡ Some y)
then_some f None y e = absurd (none_is y e)
then_some f (Some x) y e = (x, refl, e)

pub map_or_ok : {A B : Type 0} (f : A → B) (o : Option A) (fault : PatternFault) (y : B) → option_map_or (λ x. done (f x)) o (Err fault) ≡ Ok y → (x : A) × (o ≡ Some x) × (f x ≡ y)
map_or_ok f None fault y e = absurd (refused fault y e)
map_or_ok f (Some x) fault y e = (x, refl, ok_is (f x) y e)
