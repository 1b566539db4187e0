-- The counts of a tally, one more entry on.
use Rattle.std.proofs.Common.{◌≡◌, ℕ, ◌+◌, Bool, true, false, ◌&&◌, cond, List, [], ◌∷◌, ◌++◌, refl, ap, ◌∙◌, arith, add-zero, count_by, sum_by, filter, is_some}
use Rattle.std.specs.Str.{bytes_eq}
use Rattle.std.proofs.lemmas.List.Elements.{filter-append}
use Rattle.std.proofs.lemmas.List.Sums.{sum_by_push, sum_by-append}
use Rattle.tac_request.specs.declared.record.AcctKind.{AcctKind}
use Rattle.tac_request.specs.declared.record.AcctKind.TheVariants.{Begin, Stop, Watch, Update}
use Rattle.tac_tally.specs.Book.{Entry}
use Rattle.tac_tally.specs.Tally.{same_acct, is_of, drifts, elapsed_of, tally_of}
use Rattle.tac_tally.specs.Counting.{counted}
use Rattle.tac_tally.specs.Accounts.{but_open}
use Rattle.tac_tally.proofs.OpenTasks.{one_if}

-- a count of the user's records of a kind, with an entry whose user is or isn't this one
kinds-push : (user : List ℕ) (kind : AcctKind) (xs : List Entry) (e : Entry) (own : Bool) → bytes_eq e.item.user user ≡ own
    → count_by (is_of user kind) (xs ++ e ∷ []) ≡ count_by (is_of user kind) xs + one_if (own && same_acct e.item.kind kind)
kinds-push user kind xs e own h =
    sum_by_push (λ x. cond (is_of user kind x) 1 0) xs e ∙ ap (λ b. count_by (is_of user kind) xs + one_if (b && same_acct e.item.kind kind)) h

drifts-push : (user : List ℕ) (xs : List Entry) (e : Entry) (own : Bool) → bytes_eq e.item.user user ≡ own
    → count_by (drifts user) (xs ++ e ∷ []) ≡ count_by (drifts user) xs + one_if ((own && same_acct e.item.kind Stop) && is_some e.item.line && e.denied)
drifts-push user xs e own h =
    sum_by_push (λ x. cond (drifts user x) 1 0) xs e
    ∙ ap (λ b. count_by (drifts user) xs + one_if ((b && same_acct e.item.kind Stop) && is_some e.item.line && e.denied)) h

sum_if : (e : Entry) (b : Bool) → sum_by (λ x. x.item.elapsed) (cond b (e ∷ []) []) ≡ cond b e.item.elapsed 0
sum_if e true = omega arith
sum_if e false = refl

elapsed-push : (user : List ℕ) (xs : List Entry) (e : Entry) (own : Bool) → bytes_eq e.item.user user ≡ own
    → elapsed_of user (xs ++ e ∷ []) ≡ elapsed_of user xs + cond (own && same_acct e.item.kind Stop) e.item.elapsed 0
elapsed-push user xs e own h =
    let seconds : Entry → ℕ = λ x. x.item.elapsed in
    ap (sum_by seconds) (filter-append (is_of user Stop) xs (e ∷ []))
    ∙ sum_by-append seconds (filter (is_of user Stop) xs) (filter (is_of user Stop) (e ∷ []))
    ∙ ap (λ n. elapsed_of user xs + n) (sum_if e (is_of user Stop e))
    ∙ ap (λ b. elapsed_of user xs + cond (b && same_acct e.item.kind Stop) e.item.elapsed 0) h

-- an entry of the user is counted
pub counts-own : (user : List ℕ) (xs : List Entry) (e : Entry) → bytes_eq e.item.user user ≡ true
    → but_open (tally_of user (xs ++ e ∷ [])) ≡ counted e.item e.denied (but_open (tally_of user xs))
counts-own user xs e h =
    let starts = kinds-push user Begin xs e true h in
    let stops = kinds-push user Stop xs e true h in
    let watchdogs = kinds-push user Watch xs e true h in
    let updates = kinds-push user Update xs e true h in
    let elapsed = elapsed-push user xs e true h in
    let drift = drifts-push user xs e true h in
    cc

-- an entry of another user changes nothing
pub counts-other : (user : List ℕ) (xs : List Entry) (e : Entry) → bytes_eq e.item.user user ≡ false → but_open (tally_of user (xs ++ e ∷ [])) ≡ but_open (tally_of user xs)
counts-other user xs e h =
    let starts = kinds-push user Begin xs e false h ∙ add-zero _ in
    let stops = kinds-push user Stop xs e false h ∙ add-zero _ in
    let watchdogs = kinds-push user Watch xs e false h ∙ add-zero _ in
    let updates = kinds-push user Update xs e false h ∙ add-zero _ in
    let elapsed = elapsed-push user xs e false h ∙ add-zero _ in
    let drift = drifts-push user xs e false h ∙ add-zero _ in
    cc
