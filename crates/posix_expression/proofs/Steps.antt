-- Steps of a reading, from what they gave.
use Rattle.std.proofs.Common.{◌≡◌, Bool, true, false, cond, Option, Some, None, Result, Ok, Err, refl, inl, inr, ◌⊎◌}
use Rattle.std.specs.Option.{option_map_or}
use Rattle.posix_expression.specs.declared.unsaid.Unsaid.{Unsaid}
use Rattle.posix_expression.specs.Reading.{◌>>=◌}

-- values where antt cannot tell the other type
abbrev pub given : {A : Type 0} → A → Result A Unsaid
given x = Ok x

abbrev pub refused : {A : Type 0} → Unsaid → Result A Unsaid
refused why = Err why

pub given_is : {A : Type 0} (x y : A) → given x ≡ given y → x ≡ y
given_is x y e = cc

pub not_given : {A : Type 0} (why : Unsaid) (x : A) → refused why ≡ given x → ⊥
not_given why x e = cc

pub bind_given : {A B : Type 0} (r : Result A Unsaid) (f : A → Result B Unsaid) (y : B) → (r >>= f) ≡ given y → (x : A) × (r ≡ given x) × (f x ≡ given y)
bind_given (Ok x) f y e = (x, refl, e)
bind_given (Err why) f y e = absurd (not_given why y e)

pub chosen : {A : Type 0} (b : Bool) (x y z : A) → cond b x y ≡ z → ((b ≡ true) × (x ≡ z)) ⊎ ((b ≡ false) × (y ≡ z))
chosen true x y z e = inl (refl, e)
chosen false x y z e = inr (refl, e)

-- what was refused otherwise
pub unless : {A : Type 0} (b : Bool) (why : Unsaid) (r : Result A Unsaid) (x : A) → cond b (refused why) r ≡ given x → (b ≡ false) × (r ≡ given x)
unless true why r x e = absurd (not_given why x e)
unless false why r x e = (refl, e)

pub where_so : {A : Type 0} (b : Bool) (why : Unsaid) (r : Result A Unsaid) (x : A) → cond b r (refused why) ≡ given x → (b ≡ true) × (r ≡ given x)
where_so true why r x e = (refl, e)
where_so false why r x e = absurd (not_given why x e)

pub map_given : {A B : Type 0} (f : A → Result B Unsaid) (o : Option A) (why : Unsaid) (y : B) → option_map_or f o (refused why) ≡ given y → (x : A) × (o ≡ Some x) × (f x ≡ given y)
map_given f None why y e = absurd (not_given why y e)
map_given f (Some x) why y e = (x, refl, e)
