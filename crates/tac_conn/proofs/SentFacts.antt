-- A packet that is written where another text stands before it.
use Rattle.std.proofs.Common.{◌≡◌, ℕ, ◌+◌, ◌<◌, List, ◌++◌, length, take, drop, refl, sym, ap, ◌∙◌, append_assoc, arith}
use Rattle.std.specs.Int.{w32, to_be_bytes, from_be_bytes}
use Rattle.std.proofs.lemmas.List.{take_at, drop_at, length-append}
use Rattle.std.proofs.lemmas.Nat.{from_be_bytes-to_be_bytes_4}
use Rattle.tac_wire.specs.declared.door.Door.{Door}
use Rattle.tac_wire.specs.declared.door.Door.TheVariants.{Padded, Clear}
use Rattle.tac_wire.specs.declared.header.Header.{Header}
use Rattle.tac_wire.specs.Door.{closed, marked}
use Rattle.tac_wire.specs.Header.{header_bytes}
use Rattle.tac_wire.proofs.DoorFacts.{length-closed}
use Rattle.tac_conn.specs.Packet.{sent, IsWhole}

-- what stood before, the place of the header, and the body
pub sealed_so : (door : Door) (out place body written new : List ℕ) (header : Header) (start n : ℕ) → start ≡ length out → length place ≡ 12 → written ≡ out ++ place ++ body → n ≡ length body
    → new ≡ take start written ++ header_bytes (marked door (record header { length = n })) ++ closed door (marked door (record header { length = n })) (drop (start + 12) written)
    → new ≡ out ++ sent door (record { header = record header { length = length body }; body = body })
sealed_so door out place body written new header start n at twelve is len e =
    let front : take start written ≡ out = ap (take start) (is ∙ append_assoc out place body) ∙ take_at out (place ++ body) start (sym at) in
    let back : drop (start + 12) written ≡ body = ap (drop (start + 12)) is ∙ drop_at (out ++ place) body (start + 12) (omega (arith, length-append out place, at, twelve)) in
    let head : ℕ → List ℕ → List ℕ → List ℕ = λ k before last. before ++ header_bytes (marked door (record header { length = k })) ++ closed door (marked door (record header { length = k })) last in
    e ∙ ap (λ (l : List ℕ). head n l (drop (start + 12) written)) front ∙ ap (head n out) back ∙ ap (λ (k : ℕ). head k out body) len
    ∙ append_assoc out (header_bytes (marked door (record header { length = length body }))) (closed door (marked door (record header { length = length body })) body)

-- what is sent is as long as its header, whatever that says, and its body
pub length-sent : (door : Door) (body : List ℕ) (header : Header) → length (sent door (record { header = header; body = body })) ≡ 12 + length body
length-sent door body header = omega (arith, length-closed door (marked door header) body)

-- a mark changes no length
marked_length : (door : Door) (header : Header) → (marked door header).length ≡ header.length
marked_length (Padded key) header = refl
marked_length Clear header = refl

-- it is whole where the header says the length of the body
pub sent_whole : (door : Door) (body : List ℕ) (header : Header) → length body < 65536 → IsWhole (sent door (record { header = record header { length = length body }; body = body }))
sent_whole door body header small =
    let whole : Header = record header { length = length body } in
    let told : from_be_bytes w32 (to_be_bytes w32 (marked door whole).length) ≡ length body =
    ap (λ (n : ℕ). from_be_bytes w32 (to_be_bytes w32 n)) (marked_length door whole) ∙ from_be_bytes-to_be_bytes_4 (length body) (omega (arith, small)) in
    omega (arith, told, length-sent door body whole)
