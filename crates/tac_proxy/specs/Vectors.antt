-- Vectors of a type, a length in two bytes in network order, and a value of so many bytes, one
-- after another ("The PROXY protocol, versions 1 & 2", section 2.2.1, "pp2_tlv").
use Rattle.std.specs.Prelude.{◌≡◌, ℕ, zero, suc, ◌+◌, ◌*◌, ◌/◌, ◌%◌, ◌^◌, ◌<◌, ◌==◌, List, [], ◌∷◌}
use Rattle.std.specs.Prelude.{length, take, flat_map, Option, Some, None, if◌then◌else◌}
use Rattle.std.specs.List.{AllByRecursion}
use Rattle.std.specs.Option.{option_map}

pub record Vector : Type 0 where
  pub kind : ℕ
  pub value : List ℕ

-- a vector before others
abbrev pub followed_by : ℕ → List ℕ → List Vector → List Vector
followed_by kind value more = record { kind = kind; value = value } ∷ more

-- the vectors that are written there once so many bytes are passed over; nothing where the lengths
-- don't add up to the bytes
abbrev pub vectors_after : ℕ → List ℕ → Option (List Vector)
vectors_after zero [] = Some []
vectors_after (suc n) [] = None
vectors_after (suc n) (byte ∷ bytes) = vectors_after n bytes
vectors_after zero (kind ∷ []) = None
vectors_after zero (kind ∷ high ∷ []) = None
vectors_after zero (kind ∷ high ∷ low ∷ bytes) =
    let size = high * 256 + low in
    option_map (followed_by kind (take size bytes)) (vectors_after size bytes)

-- the value of the first vector of a type
abbrev pub value_among : ℕ → List Vector → Option (List ℕ)
value_among kind [] = None
value_among kind (vector ∷ vectors) =
    if vector.kind == kind then Some vector.value else value_among kind vectors

-- the same of the vectors that bytes are; nothing where the lengths don't add up
abbrev pub first_value : ℕ → List ℕ → Option (Option (List ℕ))
first_value kind bytes = option_map (value_among kind) (vectors_after 0 bytes)

-- how a vector is written
abbrev pub vector_bytes : Vector → List ℕ
vector_bytes vector =
    vector.kind ∷ (length vector.value / 256) ∷ (length vector.value % 256) ∷ vector.value

-- its length fits in two bytes
abbrev pub HasTwoByteLength : Vector → Type 0
HasTwoByteLength vector = length vector.value < 2 ^ 16

-- vectors that are written one after another are read so, and what is read so is written so
pub record VectorsLaw : Type 0 where
  pub read :
      (vectors : List Vector) → AllByRecursion HasTwoByteLength vectors
      → vectors_after 0 (flat_map vector_bytes vectors) ≡ Some vectors
  pub written :
      (bytes : List ℕ) (vectors : List Vector) → AllByRecursion (λ byte. byte < 256) bytes
      → vectors_after 0 bytes ≡ Some vectors → bytes ≡ flat_map vector_bytes vectors
