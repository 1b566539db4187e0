-- Reading tokens one after another, as a loop does.
use Rattle.std.proofs.Common.{◌≡◌, ℕ, zero, suc, ◌+◌, ◌-◌, ◌<◌, ◌≤◌, List, [], ◌∷◌, ◌++◌, length, get_or, drop, Some, None, Result, Ok, Err, refl, sym, ap, ◌∙◌, append_assoc, append-nil, arith}
use Rattle.std.specs.Prelude.{slice_get}
use Rattle.std.proofs.lemmas.List.{at_drop_more, at_drop_all, drop-drop}
use Rattle.pol_pattern.specs.declared.version.Version.{Version}
use Rattle.pol_pattern.specs.declared.token.Token.{Token}
use Rattle.pol_pattern.specs.declared.fault.PatternFault.{PatternFault}
use Rattle.pol_pattern.specs.declared.fault.PatternFault.TheVariants as faults
use Rattle.pol_pattern.specs.Reading.{◌>>=◌, token_at, Context, context_after, at_end, tokens_from, reading, pattern_of}
use Rattle.basics.specs.Memory.{Except}
use Rattle.pol_pattern.specs.Memory.{is_memory}
use Rattle.pol_pattern.specs.Flat.{Terms}
use Rattle.pol_pattern.proofs.Faults.{fails_after}

-- bytes that were taken are passed over
pub tokens_from-skip : (version : Version) (place skip : ℕ) (context : Context) (bytes : List ℕ) → tokens_from version place skip context bytes ≡ tokens_from version (place + skip) 0 context (drop skip bytes)
unfolding tokens_from
tokens_from-skip version place zero context bytes = ap (λ (n : ℕ). tokens_from version n 0 context bytes) (omega arith)
tokens_from-skip version place (suc skip) context [] = refl
tokens_from-skip version place (suc skip) context (byte ∷ rest) =
    tokens_from-skip version (place + 1) skip context rest ∙ ap (λ (n : ℕ). tokens_from version n 0 context (drop skip rest)) (omega arith)

-- what was read before, and what is still read
abbrev pub with_front : List Token → Result (List Token) PatternFault → Result (List Token) PatternFault
with_front front read = read >>= λ others. Ok (front ++ others)

regroup : (front : List Token) (token : Token) (read : Result (List Token) PatternFault)
    → with_front front (read >>= λ others. Ok (token ∷ others)) ≡ with_front (front ++ token ∷ []) read
regroup front token (Ok others) = ap (λ (f : List Token). Ok f) (sym (append_assoc front (token ∷ []) others))
regroup front token (Err fault) = refl

first_token : (version : Version) (front : List Token) (place byte : ℕ) (rest : List ℕ) (context next : Context) (token : Token) (size : ℕ) → 0 < size → token_at version context.has_atom place byte rest ≡ Ok (token, size)
    → context_after place token context ≡ Ok next
    → with_front front (tokens_from version place 0 context (byte ∷ rest)) ≡ with_front (front ++ token ∷ []) (tokens_from version (place + size) 0 next (drop (size - 1) rest))
unfolding tokens_from
first_token version front place byte rest context next token size positive is after =
    let sum : place + 1 + (size - 1) ≡ place + size = omega arith in
    rw (is, after) (regroup front token (tokens_from version (place + 1) (size - 1) next rest)
    ∙ ap (with_front (front ++ token ∷ [])) (tokens_from-skip version (place + 1) (size - 1) next rest ∙ ap (λ (n : ℕ). tokens_from version n 0 next (drop (size - 1) rest)) sum))

first_fault : (version : Version) (front : List Token) (place byte : ℕ) (rest : List ℕ) (context : Context) (fault : PatternFault) → token_at version context.has_atom place byte rest ≡ Err fault
    → with_front front (tokens_from version place 0 context (byte ∷ rest)) ≡ Err fault
unfolding tokens_from
first_fault version front place byte rest context fault is = rw is refl

context_fault : (version : Version) (front : List Token) (place byte : ℕ) (rest : List ℕ) (context : Context) (token : Token) (size : ℕ) (fault : PatternFault) → token_at version context.has_atom place byte rest ≡ Ok (token, size)
    → context_after place token context ≡ Err fault → with_front front (tokens_from version place 0 context (byte ∷ rest)) ≡ Err fault
unfolding tokens_from
context_fault version front place byte rest context token size fault is after = rw (is, after) refl

-- ---- by place

pub token_read : (version : Version) (front : List Token) (place : ℕ) (bytes : List ℕ) (context next : Context) (token : Token) (size : ℕ) (total : Result (List Token) PatternFault) → place < length bytes
    → 0 < size → token_at version context.has_atom place (get_or bytes place 0) (drop (place + 1) bytes) ≡ Ok (token, size) → context_after place token context ≡ Ok next
    → with_front front (tokens_from version place 0 context (drop place bytes)) ≡ total
    → with_front (front ++ token ∷ []) (tokens_from version (place + size) 0 next (drop (place + size) bytes)) ≡ total
token_read version front place bytes context next token size total lt positive is after so_far =
    let sum : place + 1 + (size - 1) ≡ place + size = omega arith in
    let rest : drop (size - 1) (drop (place + 1) bytes) ≡ drop (place + size) bytes = drop-drop (size - 1) (place + 1) bytes ∙ ap (λ (n : ℕ). drop n bytes) sum in
    ap (λ (t : List ℕ). with_front (front ++ token ∷ []) (tokens_from version (place + size) 0 next t)) (sym rest)
    ∙ sym (first_token version front place (get_or bytes place 0) (drop (place + 1) bytes) context next token size positive is after)
    ∙ sym (at_drop_more (λ (t : List ℕ). with_front front (tokens_from version place 0 context t)) bytes place 0 lt) ∙ so_far

pub token_refused : (version : Version) (front : List Token) (place : ℕ) (bytes : List ℕ) (context : Context) (fault : PatternFault) (total : Result (List Token) PatternFault) → place < length bytes
    → token_at version context.has_atom place (get_or bytes place 0) (drop (place + 1) bytes) ≡ Err fault → with_front front (tokens_from version place 0 context (drop place bytes)) ≡ total → total ≡ Err fault
token_refused version front place bytes context fault total lt is so_far =
    sym so_far ∙ at_drop_more (λ (t : List ℕ). with_front front (tokens_from version place 0 context t)) bytes place 0 lt
    ∙ first_fault version front place (get_or bytes place 0) (drop (place + 1) bytes) context fault is

pub context_refused : (version : Version) (front : List Token) (place : ℕ) (bytes : List ℕ) (context : Context) (token : Token) (size : ℕ) (fault : PatternFault) (total : Result (List Token) PatternFault) → place < length bytes
    → token_at version context.has_atom place (get_or bytes place 0) (drop (place + 1) bytes) ≡ Ok (token, size) → context_after place token context ≡ Err fault
    → with_front front (tokens_from version place 0 context (drop place bytes)) ≡ total → total ≡ Err fault
context_refused version front place bytes context token size fault total lt is after so_far =
    sym so_far ∙ at_drop_more (λ (t : List ℕ). with_front front (tokens_from version place 0 context t)) bytes place 0 lt
    ∙ context_fault version front place (get_or bytes place 0) (drop (place + 1) bytes) context token size fault is after

pub tokens_end : (version : Version) (front : List Token) (place : ℕ) (bytes : List ℕ) (context : Context) (total : Result (List Token) PatternFault) → length bytes ≤ place
    → with_front front (tokens_from version place 0 context (drop place bytes)) ≡ total → total ≡ with_front front (at_end context.opened)
unfolding tokens_from
tokens_end version front place bytes context total le so_far =
    sym so_far ∙ at_drop_all (λ (t : List ℕ). with_front front (tokens_from version place 0 context t)) bytes place le

pub nothing_open : (front : List Token) (opened : List ℕ) → slice_get opened 0 ≡ None → with_front front (at_end opened) ≡ Ok front
nothing_open front [] is = ap (λ (f : List Token). Ok f) (append-nil front)
nothing_open front (last ∷ others) is = absurd cc

pub last_open : (front : List Token) (opened : List ℕ) (last : ℕ) → slice_get opened 0 ≡ Some last → with_front front (at_end opened) ≡ Err (faults.Unclosed last)
last_open front [] last is = absurd cc
last_open front (first ∷ others) last is = let same : first ≡ last = cc in ap (λ (place : ℕ). Err (faults.Unclosed place)) same

-- a pattern that was read is its source
pub pattern_is : (bytes : List ℕ) (flat : Terms) → reading bytes ≡ Ok flat → pattern_of bytes ≡ Ok bytes
unfolding pattern_of
pattern_is bytes flat is = rw is refl

pub pattern_fails : (fault : PatternFault) (bytes : List ℕ) → Except (is_memory fault) (reading bytes ≡ Err fault) → Except (is_memory fault) (pattern_of bytes ≡ Err fault)
unfolding pattern_of
pattern_fails fault bytes is = fails_after fault (reading bytes) (λ flat. Ok bytes) is
