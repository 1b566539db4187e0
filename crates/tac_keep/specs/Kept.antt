-- What is handed over of a policy, and an answer that is told once a store holds that
-- (docs/PROVED.md, "Edits that outlive a server").
use Rattle.std.specs.Prelude.{◌≡◌, ◌⊎◌, ℕ, List, [], ◌∷◌, ◌++◌, take, Bool, true, false}
use Rattle.std.specs.Prelude.{Option, Some, None, Result, Ok, Err}
use Rattle.std.specs.Io.KnownBytes.{Appends, Keeps}
use Rattle.std.specs.declared.io.Error.{Error}
use Rattle.pol_text.specs.Text.{text_of}
use Rattle.pol_text.specs.declared.subject.Subject.{Subject}
use Rattle.tac_watch.specs.Watching.{Seen, stored, edited, loaded, questioned}
use Rattle.tac_keep.specs.declared.keeping_watch.KeepingWatch.{KeepingWatch}
use Rattle.tac_keep.specs.declared.tray.Wanted.{Wanted}
use Rattle.tac_keep.specs.declared.tray.Wanted.TheVariants as wanted
use Rattle.tac_keep.specs.declared.keeper.Keeper.{Keeper}
use Rattle.tac_keep.specs.declared.keeper.Unkept.{Unkept}
use Rattle.tac_keep.specs.declared.keeper.Unkept.TheVariants as unkept
use Rattle.tac_keep.specs.declared.keeper.Untold.{Untold}
use Rattle.tac_keep.specs.declared.keeper.Untold.TheVariants as untold

-- ---- who watches a desk

-- these were told after all that was told before; of a tray, of which nothing is known, it may be so
abbrev pub Tells : Option (List Wanted) → Option (List Wanted) → List Wanted → Type 0
Tells None after new = Unit {0}
Tells (Some before) after new = after ≡ Some (before ++ new)

module _ {P T : Type 0} (told : T → Option (List Wanted)) where
  -- nothing was told
  abbrev pub Rests : KeepingWatch P T → KeepingWatch P T → Type 0
  Rests was now =
      (now.is_unprinted ≡ was.is_unprinted) × Tells (told was.tray) (told now.tray) []

  -- it was told once that nothing is to be kept
  abbrev pub Forgets : KeepingWatch P T → KeepingWatch P T → Type 0
  Forgets was now =
      (now.is_unprinted ≡ false)
      × Tells (told was.tray) (told now.tray) (wanted.Nothing ∷ [])

  -- what this policy is printed as was told once
  abbrev pub IsTold : KeepingWatch P T → KeepingWatch P T → List Subject → Type 0
  IsTold was now policy =
      (now.is_unprinted ≡ false)
      × Tells (told was.tray) (told now.tray) (wanted.Text (text_of policy) ∷ [])

  -- it was told once that there was no memory for that
  abbrev pub IsUntold : KeepingWatch P T → KeepingWatch P T → Type 0
  IsUntold was now =
      (now.is_unprinted ≡ true)
      × Tells (told was.tray) (told now.tray) (wanted.Unprinted ∷ [])

  -- the one, or, only where the printer may lack memory for this policy, the other
  abbrev pub IsHandedOver : Type 0 → KeepingWatch P T → KeepingWatch P T → List Subject → Type 0
  IsHandedOver Lacks was now policy = IsTold was now policy ⊎ (Lacks × IsUntold was now)

  -- the same of a policy of which that was told already: it isn't told again
  abbrev pub IsHandedOverLate : Type 0 → KeepingWatch P T → KeepingWatch P T → List Subject → Type 0
  IsHandedOverLate Lacks was now policy = IsTold was now policy ⊎ (Lacks × Rests was now)

  -- at a question: a policy of which it was told that it wasn't printed, and else nothing
  abbrev pub IsLate : Bool → Type 0 → KeepingWatch P T → KeepingWatch P T → List Subject → Type 0
  IsLate true Lacks was now policy = IsHandedOverLate Lacks was now policy
  IsLate false Lacks was now policy = Rests was now

  -- what is told where this is seen of a desk: the policy with an edit, and of one that was loaded
  -- that nothing is to be kept
  abbrev pub HandsOverBy : (P → List Subject → Type 0) → KeepingWatch P T → Seen → KeepingWatch P T
      → Type 0
  HandsOverBy lacks was (stored gauge) now = Rests was now
  HandsOverBy lacks was (edited policy edits) now =
      IsHandedOver (lacks was.printer policy) was now policy
  HandsOverBy lacks was (loaded policy) now = Forgets was now
  HandsOverBy lacks was (questioned policy) now =
      IsLate was.is_unprinted (lacks was.printer policy) was now policy

  -- that, by the same printer
  abbrev pub HandsOver : (P → List Subject → Type 0) → KeepingWatch P T → Seen → KeepingWatch P T
      → Type 0
  HandsOver lacks was seen now = HandsOverBy lacks was seen now × (now.printer ≡ was.printer)

-- ---- a store

-- a store holds this text, or none; of a store of which nothing is known, as a file, it may be so
abbrev pub Holds : Option (Option (List ℕ)) → Option (List ℕ) → Type 0
Holds None text = Unit {0}
Holds (Some held) text = held ≡ text

-- it holds this now, or what it held before
abbrev pub IsKeptOrAsBefore : Option (Option (List ℕ)) → Option (Option (List ℕ))
    → Option (List ℕ) → Type 0
IsKeptOrAsBefore before after text = (after ≡ before) ⊎ Holds after text

-- what it is to hold is held; a policy that wasn't printed never is
abbrev pub IsKept : Option (Option (List ℕ)) → Wanted → Type 0
IsKept held (wanted.Text text) = Holds held (Some text)
IsKept held wanted.Nothing = Holds held None
IsKept held wanted.Unprinted = ⊥

-- the same where it may owe nothing, and then is as it was
abbrev pub IsSettled : Option (Option (List ℕ)) → Option (Option (List ℕ)) → Option Wanted
    → Type 0
IsSettled before after None = after ≡ before
IsSettled before after (Some owed) = IsKept after owed

-- ---- an answer

module _ {S : Type 0} (held : S → Option (Option (List ℕ))) where
  -- the store holds what was owed, and owes nothing more
  abbrev pub Settles : Keeper S → Keeper S → Type 0
  Settles was now =
      (now.owed ≡ None) × IsSettled (held was.store) (held now.store) was.owed

  -- it doesn't, and owes that as before: it holds what it held, or it may hold what is owed
  abbrev pub Owes : Keeper S → Keeper S → Type 0
  Owes was now =
      (now.owed ≡ was.owed)
      × ((held now.store ≡ held was.store) ⊎ IsSettled (held was.store) (held now.store) was.owed)

  -- an answer, or a beginning of it, was written, and by then what was owed was held; or nothing of
  -- it was, and that is still owed
  abbrev pub Sends : Result ℕ Untold → List ℕ → Keeper S → Keeper S → Option (List ℕ)
      → Option (List ℕ) → Type 0
  Sends (Ok taken) answer was now before after =
      Settles was now × Appends before after (take taken answer)
  Sends (Err (untold.Unwritten _)) answer was now before after =
      Settles was now × Keeps before after
  Sends (Err (untold.NotKept _)) answer was now before after =
      Owes was now × (after ≡ before)

module _ {S : Type 0} (refuses : S → Option (List ℕ) → Error → Type 0) where
  -- why a store doesn't hold what is owed: it refused that, and said so; or there was no memory to
  -- print it. Where nothing is owed there is no reason
  abbrev pub IsWhy : S → Option Wanted → Unkept → Type 0
  IsWhy store (Some (wanted.Text text)) (unkept.Failed error) = refuses store (Some text) error
  IsWhy store (Some wanted.Nothing) (unkept.Failed error) = refuses store None error
  IsWhy store (Some wanted.Unprinted) unkept.Memory = Unit {0}
  IsWhy store _ _ = ⊥

  -- what comes of an answer is what the stream said to it, or why it was kept from the stream
  abbrev pub IsSaid : (Result ℕ Error → Type 0) → Keeper S → Result ℕ Untold → Type 0
  IsSaid says was (Ok taken) = says (Ok taken)
  IsSaid says was (Err (untold.Unwritten error)) = says (Err error)
  IsSaid says was (Err (untold.NotKept why)) = IsWhy was.store was.owed why
