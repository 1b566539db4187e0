-- The fields of a text, and the packets that they spell.
use Rattle.std.proofs.Common.{◌≡◌, ℕ, Bool, true, false, cond, eqb, List, [], ◌∷◌, ◌++◌, Option, None, Some, refl, sym, ap, ◌∙◌, append-nil, append_assoc}
use Rattle.std.specs.Option.{option_map, option_and_then}
use Rattle.basics.specs.Lines.{split_at_first, onto_first}
use Rattle.tac_server.specs.Command.{bytes_of, wire_packet, wire_packets, fields_of}

-- ---- fields

same_parts : (a b : List ℕ × List ℕ) → Some a ≡ Some b → a ≡ b
same_parts a b e = cc

split_case : (byte : ℕ) (bytes field rest : List ℕ) (b : Bool) (parts : Option (List ℕ × List ℕ)) → ((p : List ℕ × List ℕ) → parts ≡ Some p → fields_of bytes ≡ p.0 ∷ fields_of p.1)
    → cond {A = Option (List ℕ × List ℕ)} b (Some ([], bytes)) (option_map (λ parts. (byte ∷ parts.0, parts.1)) parts) ≡ Some (field, rest)
    → cond b ([] ∷ fields_of bytes) (onto_first byte (fields_of bytes)) ≡ field ∷ fields_of rest
split_case byte bytes field rest true parts below h =
    let e = same_parts ([], bytes) (field, rest) h in
    ap (λ (p : List ℕ × List ℕ). p.0 ∷ fields_of p.1) e
split_case byte bytes field rest false None below h = absurd cc
split_case byte bytes field rest false (Some p) below h =
    let e = same_parts (byte ∷ p.0, p.1) (field, rest) h in
    ap (onto_first byte) (below p refl) ∙ ap (λ (q : List ℕ × List ℕ). q.0 ∷ fields_of q.1) e

-- a text with a space has the field before it, and the fields after it
pub fields_of-split : (bytes field rest : List ℕ) → split_at_first 32 bytes ≡ Some (field, rest) → fields_of bytes ≡ field ∷ fields_of rest
fields_of-split [] field rest h = absurd cc
fields_of-split (byte ∷ bytes) field rest h = split_case byte bytes field rest (eqb byte 32) (split_at_first 32 bytes) (λ p e. fields_of-split bytes p.0 p.1 e) h

whole_case : (byte : ℕ) (bytes : List ℕ) (b : Bool) (parts : Option (List ℕ × List ℕ)) → (parts ≡ None → fields_of bytes ≡ bytes ∷ [])
    → cond {A = Option (List ℕ × List ℕ)} b (Some ([], bytes)) (option_map (λ parts. (byte ∷ parts.0, parts.1)) parts) ≡ None
    → cond b ([] ∷ fields_of bytes) (onto_first byte (fields_of bytes)) ≡ (byte ∷ bytes) ∷ []
whole_case byte bytes true parts below h = absurd cc
whole_case byte bytes false None below h = ap (onto_first byte) (below refl)
whole_case byte bytes false (Some p) below h = absurd cc

-- a text without one is one field
pub fields_of-whole : (bytes : List ℕ) → split_at_first 32 bytes ≡ None → fields_of bytes ≡ bytes ∷ []
fields_of-whole [] h = refl
fields_of-whole (byte ∷ bytes) h = whole_case byte bytes (eqb byte 32) (split_at_first 32 bytes) (fields_of-whole bytes) h

-- ---- packets

-- what packets spell after these
abbrev pub after : List ℕ → Option (List ℕ) → Option (List ℕ)
after front packets = option_map (λ more. front ++ more) packets

after_joined : (front packet : List ℕ) (packets : Option (List ℕ)) → after front (after packet packets) ≡ after (front ++ packet) packets
after_joined front packet None = refl
after_joined front packet (Some more) = ap (λ (t : List ℕ). Some t) (sym (append_assoc front packet more))

module _ (key : List ℕ) (front : List ℕ) (fields : List (List ℕ)) (whole : Option (List ℕ)) (told : after front (wire_packets key fields) ≡ whole) where
  -- no field is left
  pub packets_end : fields ≡ [] → Some front ≡ whole
  unfolding wire_packets
  packets_end e = ap (λ (t : List ℕ). Some t) (sym (append-nil front)) ∙ ap (λ (fs : List (List ℕ)). after front (wire_packets key fs)) (sym e) ∙ told

  module _ (field : List ℕ) (rest : List (List ℕ)) (split : fields ≡ field ∷ rest) where
    first_told : after front (wire_packets key (field ∷ rest)) ≡ whole
    first_told = ap (λ (fs : List (List ℕ)). after front (wire_packets key fs)) (sym split) ∙ told

    -- the next field spells no packet
    pub packets_none : None ≡ option_and_then (wire_packet key) (bytes_of field) → None ≡ whole
    unfolding wire_packets
    packets_none none =
        let here : wire_packets key (field ∷ rest) ≡ None = rw (← none) refl in
        sym (ap (after front) here) ∙ first_told

    -- the next field spells a packet
    pub packets_more : (packet : List ℕ) → Some packet ≡ option_and_then (wire_packet key) (bytes_of field) → after (front ++ packet) (wire_packets key rest) ≡ whole
    unfolding wire_packets
    packets_more packet some =
        let here : wire_packets key (field ∷ rest) ≡ after packet (wire_packets key rest) = rw (← some) refl in
        sym (after_joined front packet (wire_packets key rest)) ∙ sym (ap (after front) here) ∙ first_told
