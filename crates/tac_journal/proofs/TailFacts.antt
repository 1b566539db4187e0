-- What a file has once it took lines, or a part of them.
use Rattle.std.proofs.Common.{◌≡◌, ℕ, suc, ◌+◌, ◌<◌, ◌≤◌, Bool, true, false, List, [], ◌∷◌, length, take, drop, nat_lt, Option, Result, Ok, Err, refl, sym, subst, arith, take-add, take-append-drop, length-drop}
use Rattle.std.proofs.KnownBytes.{Appends-trans}
use Rattle.std.specs.Io.KnownBytes.{Appends}
use Rattle.tac_journal.specs.Appended.{Takes, with_end, IsTakenInPart}
use Rattle.tac_journal.specs.declared.tail.Untaken.{Untaken}

-- the end of the last line, and then the lines
pub whole : (was : Bool) (lines : List ℕ) (old mid new : Option (List ℕ)) → Appends old mid (with_end was []) → Appends mid new lines
    → Appends old new (with_end was lines)
whole false lines old mid new ended taken = Appends-trans old mid new [] lines ended taken
whole true lines old mid new ended taken = Appends-trans old mid new (10 ∷ []) lines ended taken

-- the end of the last line, and then a part of the lines
pub part : (was : Bool) (lines : List ℕ) (taken : ℕ) (old mid new : Option (List ℕ)) → Appends old mid (with_end was [])
    → (0 < length lines → taken < length lines) → Appends mid new (take taken lines) → IsTakenInPart lines was (nat_lt 0 taken) old new
part false lines taken old mid new ended within bytes = (taken, refl, within, Appends-trans old mid new [] (take taken lines) ended bytes)
part true lines taken old mid new ended within bytes =
    (suc taken, refl, (λ some. let less = within some in omega (arith, less)), Appends-trans old mid new (10 ∷ []) (take taken lines) ended bytes)

-- not even the end of the last line
pub unended : (was now : Bool) (lines : List ℕ) (old new : Option (List ℕ)) → was ≡ true → now ≡ true → Appends old new []
    → IsTakenInPart lines was now old new
unended was now lines old new is_cut stays none =
    let P : Bool → Type 0 = λ w. IsTakenInPart lines w now old new in
    let Q : Bool → Type 0 = λ n. IsTakenInPart lines true n old new in
    subst P (sym is_cut) (subst Q (sym stays) (0, refl, (λ some. omega arith), none))

-- the first bytes, and then all of the rest or a part of it
pub and_rest : (bytes : List ℕ) (taken more : ℕ) (written : Result (Unit {0}) Untaken) (start old new : Option (List ℕ)) → taken ≤ length bytes → (0 < length bytes → taken < length bytes)
    → Appends start old (take taken bytes) → Takes (more, written) (drop taken bytes) old new → Takes (taken + more, written) bytes start new
and_rest bytes taken more (Ok done) start old new within left first rest =
    let len = length-drop taken bytes in
    (omega (arith, rest.0, len, within), subst (Appends start new) (take-append-drop taken bytes) (Appends-trans start old new (take taken bytes) (drop taken bytes) first rest.1))
and_rest bytes taken more (Err why) start old new within left first rest =
    let len = length-drop taken bytes in (
      (λ some. let less = left some in let fewer = rest.0 (omega (arith, less, len)) in omega (arith, fewer, len)),
      subst (Appends start new) (sym (take-add taken more bytes)) (Appends-trans start old new (take taken bytes) (take more (drop taken bytes)) first rest.1),
    )
