-- What is kept of each user beside the records, so that no question goes over all of them.
use Rattle.std.specs.Prelude.{◌≡◌, ℕ, zero, suc, ◌+◌, ◌*◌, ◌^◌, Bool, false, eqb, List, [], ◌∷◌}
use Rattle.std.specs.Prelude.{length, Option, Some, None}
use Rattle.std.specs.Global.{Vec}
use Rattle.std.specs.List.{list_any}
use Rattle.std.specs.Str.{bytes_eq}
use Rattle.std.specs.Ordering.{nat_cmp}
use Rattle.std.specs.Cmp.Lexicographic.{slice_cmp}
use Rattle.std.specs.BTreeMap.{BTreeMap, get_by}
use Rattle.tac_tally.specs.Book.{Entry}
use Rattle.tac_tally.specs.Tally.{tally_of, IsBelow}
use Rattle.tac_tally.specs.Counting.{HoldsOpen}
use Rattle.tac_tally.specs.declared.tally.Tally.{Tally}
use Rattle.tac_tally.specs.declared.account.Account.{Account}
use Rattle.tac_tally.specs.declared.accounts.Accounts.{Accounts}

-- whether the entry is a record of this user
abbrev pub is_by : List ℕ → Entry → Bool
is_by user entry = bytes_eq entry.item.user user

-- whether such an entry stands at the place
abbrev pub stands_at : (Entry → Bool) → List Entry → ℕ → Bool
stands_at test [] place = false
stands_at test (entry ∷ rest) zero = test entry
stands_at test (entry ∷ rest) (suc place) = stands_at test rest place

-- the entries with another mark at the place
abbrev pub with_mark_at : ℕ → Bool → List Entry → List Entry
with_mark_at place denied [] = []
with_mark_at zero denied (entry ∷ rest) = record entry { denied = denied } ∷ rest
with_mark_at (suc place) denied (entry ∷ rest) = entry ∷ with_mark_at place denied rest

-- the places are those at which such entries stand, in any order
abbrev pub ArePlaces : (Entry → Bool) → List Entry → List ℕ → Type 0
ArePlaces test entries places =
    (place : ℕ) → list_any (eqb place) places ≡ stands_at test entries place

-- the tally without its open tasks
abbrev pub but_open : Tally → Tally
but_open tally = record tally { open_tasks = 0 }

-- the account is that of the user's entries
pub record Stands (user : List ℕ) (entries : List Entry) (account : Account) : Type 0 where
  pub counts : account.counts ≡ but_open (tally_of user entries)
  pub small : IsBelow (length entries * 2 ^ 32 + 1) account.counts
  pub tasks : HoldsOpen user entries account.open_tasks
  pub places : ArePlaces (is_by user) entries account.places.items

-- who has no account has no entries
abbrev pub StandsIf : List ℕ → List Entry → Option Account → Type 0
StandsIf user entries None = list_any (is_by user) entries ≡ false
StandsIf user entries (Some account) = Stands user entries account

-- the account under a user's name
abbrev pub account_of : BTreeMap (Vec ℕ) Account → List ℕ → Option Account
account_of accounts user = get_by (λ key. slice_cmp nat_cmp user key.items) accounts

-- the accounts are those of the users of the entries
abbrev pub Run : List Entry → Accounts → Type 0
Run entries accounts = (user : List ℕ) → StandsIf user entries (account_of accounts.by_user user)
