-- Vectors past so many bytes, and one vector more.
use Rattle.std.proofs.Common.{◌≡◌, ◌≢◌, ℕ, zero, suc, ◌+◌, ◌*◌, ◌<◌, ◌≤◌, Bool, true, false, cond, eqb, ◌/◌, ◌%◌, List, [], ◌∷◌, ◌++◌, length, get_or, take, drop, Option, Some, None, refl, sym, ap, ◌∙◌, arith}
use Rattle.std.proofs.lemmas.List.{get_or-take, length-append, length-take-le, take_at, drop_at, take-append-drop}
use Rattle.std.specs.List.{AllByRecursion, flat_map}
use Rattle.std.specs.Option.{option_map, option_or}
use Rattle.tac_proxy.specs.Vectors.{Vector, followed_by, vectors_after, value_among, vector_bytes, VectorsLaw}

pub passed_over : (n : ℕ) (bytes : List ℕ) → n ≤ length bytes → vectors_after n bytes ≡ vectors_after 0 (drop n bytes)
passed_over zero bytes le = refl
passed_over (suc n) [] le = absurd (omega arith)
passed_over (suc n) (byte ∷ bytes) le = passed_over n bytes (omega arith)

pub too_few : (n : ℕ) (bytes : List ℕ) → length bytes < n → vectors_after n bytes ≡ None
too_few zero bytes lt = absurd (omega arith)
too_few (suc n) [] lt = refl
too_few (suc n) (byte ∷ bytes) lt = too_few n bytes (omega arith)

-- one vector, and those after it
pub next_there : (bytes : List ℕ) (size : ℕ) → 3 ≤ length bytes → size ≡ get_or bytes 1 0 * 256 + get_or bytes 2 0 → size ≤ length (drop 3 bytes)
    → vectors_after 0 bytes ≡ option_map (followed_by (get_or bytes 0 0) (take size (drop 3 bytes))) (vectors_after 0 (drop size (drop 3 bytes)))
next_there [] size long is le = absurd (omega arith)
next_there (a ∷ []) size long is le = absurd (omega arith)
next_there (a ∷ b ∷ []) size long is le = absurd (omega arith)
next_there (kind ∷ high ∷ low ∷ bytes) size long is le =
    rw is (ap (option_map (followed_by kind (take (high * 256 + low) bytes))) (passed_over (high * 256 + low) bytes (rw (← is) le)))

pub next_missing : (bytes : List ℕ) (size : ℕ) → 3 ≤ length bytes → size ≡ get_or bytes 1 0 * 256 + get_or bytes 2 0 → length (drop 3 bytes) < size → vectors_after 0 bytes ≡ None
next_missing [] size long is lt = absurd (omega arith)
next_missing (a ∷ []) size long is lt = absurd (omega arith)
next_missing (a ∷ b ∷ []) size long is lt = absurd (omega arith)
next_missing (kind ∷ high ∷ low ∷ bytes) size long is lt =
    ap (option_map (followed_by kind (take (high * 256 + low) bytes))) (too_few (high * 256 + low) bytes (rw (← is) lt))

pub next_short : (bytes : List ℕ) → length bytes < 3 → bytes ≢ [] → vectors_after 0 bytes ≡ None
next_short [] lt some = absurd (some refl)
next_short (a ∷ []) lt some = refl
next_short (a ∷ b ∷ []) lt some = refl
next_short (a ∷ b ∷ c ∷ bytes) lt some = absurd (omega arith)

abbrev pub with_rest : ℕ → Option (List ℕ) → Option (List Vector) → Option (Option (List ℕ))
with_rest kind found more = option_map (λ more. option_or found (value_among kind more)) more

-- the value so far, one vector on
pub one_more : (kind wanted : ℕ) (value : List ℕ) (found : Option (List ℕ)) (more : Option (List Vector))
    → with_rest wanted (option_or found (cond (eqb kind wanted) (Some value) None)) more ≡ with_rest wanted found (option_map (followed_by kind value) more)
one_more kind wanted value found None = refl
one_more kind wanted value (Some v) (Some more) = refl
one_more kind wanted value None (Some more) = by (eqb kind wanted)
  where
    by : (b : Bool) → Some (option_or (cond b (Some value) None) (value_among wanted more)) ≡ Some (cond b (Some value) (value_among wanted more))
    by true = refl
    by false = refl

pub next_parts : (bytes head after value rest : List ℕ) (size : ℕ) → head ≡ take 3 bytes → after ≡ drop 3 bytes → length after + 3 ≡ length bytes → size ≡ get_or head 1 0 * 256 + get_or head 2 0 → size ≤ length after → value ≡ take size after
    → rest ≡ drop size after → vectors_after 0 bytes ≡ option_map (followed_by (get_or head 0 0) value) (vectors_after 0 rest)
next_parts bytes head after value rest size head_is after_is long size_is le value_is rest_is =
    let one : get_or head 1 0 ≡ get_or bytes 1 0 = ap (λ (t : List ℕ). get_or t 1 0) head_is ∙ get_or-take 3 bytes 1 0 (omega arith) in
    let two : get_or head 2 0 ≡ get_or bytes 2 0 = ap (λ (t : List ℕ). get_or t 2 0) head_is ∙ get_or-take 3 bytes 2 0 (omega arith) in
    let first : get_or bytes 0 0 ≡ get_or head 0 0 = sym (ap (λ (t : List ℕ). get_or t 0 0) head_is ∙ get_or-take 3 bytes 0 0 (omega arith)) in
    let there : size ≤ length (drop 3 bytes) = rw (← after_is) le in
    let value_too : take size (drop 3 bytes) ≡ value = rw (← after_is) (sym value_is) in
    let rest_too : drop size (drop 3 bytes) ≡ rest = rw (← after_is) (sym rest_is) in
    next_there bytes size (omega arith) (omega arith) there ∙ by first value_too rest_too
  where
    by : {k l : ℕ} {v w r s : List ℕ} → k ≡ l → v ≡ w → r ≡ s → option_map (followed_by k v) (vectors_after 0 r) ≡ option_map (followed_by l w) (vectors_after 0 s)
    by {k} {l} {v} {w} {r} {s} e f g = rw (e, f, g) refl

pub none_parts : (bytes head after : List ℕ) (size : ℕ) → head ≡ take 3 bytes → after ≡ drop 3 bytes → length after + 3 ≡ length bytes → size ≡ get_or head 1 0 * 256 + get_or head 2 0 → length after < size → vectors_after 0 bytes ≡ None
none_parts bytes head after size head_is after_is long size_is lt =
    let one : get_or head 1 0 ≡ get_or bytes 1 0 = ap (λ (t : List ℕ). get_or t 1 0) head_is ∙ get_or-take 3 bytes 1 0 (omega arith) in
    let two : get_or head 2 0 ≡ get_or bytes 2 0 = ap (λ (t : List ℕ). get_or t 2 0) head_is ∙ get_or-take 3 bytes 2 0 (omega arith) in
    let there : length (drop 3 bytes) < size = rw (← after_is) lt in
    next_missing bytes size (omega arith) (omega arith) there

-- ---- vectors as they are written

pub length_back : (n : ℕ) → n / 256 * 256 + n % 256 ≡ n
length_back n = omega arith

pub read_written : (vectors : List Vector) → vectors_after 0 (flat_map vector_bytes vectors) ≡ Some vectors
read_written [] = refl
read_written (v ∷ vectors) =
    let rest = flat_map vector_bytes vectors in
    let there : length v.value ≤ length (v.value ++ rest) = omega (arith, length-append v.value rest) in
    let after : vectors_after (length v.value) (v.value ++ rest) ≡ Some vectors = passed_over (length v.value) (v.value ++ rest) there ∙ ap (vectors_after 0) (drop_at v.value rest (length v.value) refl) ∙ read_written vectors in
    let value : take (length v.value) (v.value ++ rest) ≡ v.value = take_at v.value rest (length v.value) refl in
    rw (length_back (length v.value), after, value) refl

small_parts : (h l : ℕ) → l < 256 → ((h * 256 + l) / 256 ≡ h) × ((h * 256 + l) % 256 ≡ l)
small_parts h l small = (omega arith, omega arith)

mapped : (kind : ℕ) (value : List ℕ) (more : Option (List Vector)) (vectors : List Vector) → option_map (followed_by kind value) more ≡ Some vectors
    → (rest : List Vector) × (more ≡ Some rest) × (vectors ≡ record { kind = kind; value = value } ∷ rest)
mapped kind value None vectors e = absurd cc
mapped kind value (Some rest) vectors e = (rest, refl, cc)

written_after : (n : ℕ) (bytes : List ℕ) (vectors : List Vector) → AllByRecursion (λ byte. byte < 256) bytes → vectors_after n bytes ≡ Some vectors → (n ≤ length bytes) × (drop n bytes ≡ flat_map vector_bytes vectors)
written_after zero [] vectors fits e = (omega arith, ap (flat_map vector_bytes) (by vectors e))
  where
    by : (vectors : List Vector) → Some [] ≡ Some vectors → [] ≡ vectors
    by vectors e = cc
written_after (suc n) [] vectors fits e = absurd cc
written_after (suc n) (byte ∷ bytes) vectors fits e = let rest = written_after n bytes vectors fits.1 e in (omega (arith, rest.0), rest.1)
written_after zero (kind ∷ []) vectors fits e = absurd cc
written_after zero (kind ∷ high ∷ []) vectors fits e = absurd cc
written_after zero (kind ∷ high ∷ low ∷ bytes) vectors fits e =
    let size = high * 256 + low in
    let (more, after, is) = mapped kind (take size bytes) (vectors_after size bytes) vectors e in
    let rest = written_after size bytes more fits.1.1.1 after in
    let long : length (take size bytes) ≡ size = length-take-le size bytes rest.0 in
    let parts = small_parts high low fits.1.1.0 in
    let front : high ∷ low ∷ bytes ≡ (length (take size bytes) / 256) ∷ (length (take size bytes) % 256) ∷ (take size bytes ++ drop size bytes) = rw (long, parts.0, parts.1, take-append-drop size bytes) refl in
    (omega arith, ap (λ (t : List ℕ). kind ∷ t) front ∙ ap (λ (t : List ℕ). kind ∷ (length (take size bytes) / 256) ∷ (length (take size bytes) % 256) ∷ (take size bytes ++ t)) rest.1 ∙ ap (flat_map vector_bytes) (sym is))

pub vectors_law : VectorsLaw
vectors_law = record {
  read = λ vectors fits. read_written vectors;
  written = λ bytes vectors fits e. (written_after 0 bytes vectors fits e).1;
}
