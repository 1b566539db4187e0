use Rattle.std.proofs.Common.{take}
use Rattle.tac_tally.specs.Accounts.{ArePlaces}
use Rattle.tac_tally.specs.Recount.{is_one_of}
use Rattle.tac_tally.proofs.book.Book.places_of.Given as goal

-- the places of the first users
abbrev pub invariant-users : goal.invariant-users
invariant-users l = ArePlaces (λ entry. is_one_of (take l.user-index l.users) entry.item.user) l.self.entries l.places.items
