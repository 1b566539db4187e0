-- What is written of a caller is read so.
use Rattle.std.proofs.Common.{◌≡◌, ℕ, ◌+◌, ◌/◌, ◌%◌, ◌≤◌, true, false, ◌||◌, List, [], ◌∷◌, ◌++◌, length, get_or, flat_map, Some, refl, sym, ap, subst, ◌∙◌, arith, lt-ltb, le-ltb, take_at, codes}
use Rattle.std.specs.Prelude.{nat_lt}
use Rattle.std.specs.Option.{option_map, option_map_or, option_and_then}
use Rattle.std.specs.Net.Addr.{octets_of}
use Rattle.std.specs.declared.net.ip_addr.IpAddr.{IpAddr}
use Rattle.std.specs.declared.net.ip_addr.IpAddr.TheVariants as Ip
use Rattle.std.proofs.NetLemmas.Arrays.{four_items, eight_items}
use Rattle.std.proofs.lemmas.List.{length-append}
use Rattle.tac_proxy.specs.Line.{socket_of}
use Rattle.tac_proxy.specs.Vectors.{Vector, vector_bytes, value_among}
use Rattle.tac_proxy.specs.Binary.{most_bytes, addresses_size, told, found, is_kind, is_refused, transport_of, binary}
use Rattle.tac_proxy.specs.Certificate.{type_ssl, ssl_certificate, certificate_in}
use Rattle.tac_proxy.specs.Written.{Call, call_bytes, written, CanBeWritten, certificate_told, call_header, two_bytes}
use Rattle.tac_proxy.specs.Proxy.{Reads}
use Rattle.tac_proxy.specs.declared.binary.Transport.{Transport}
use Rattle.tac_proxy.specs.declared.binary.Transport.TheVariants.{Tcp4, Tcp6}
use Rattle.tac_proxy.specs.declared.told.Certificate.{Certificate}
use Rattle.tac_proxy.specs.declared.told.Certificate.TheVariants.{NotTold}
use Rattle.tac_proxy.specs.declared.told.Proxy.{Proxy}
use Rattle.tac_proxy.specs.declared.told.Proxy.TheVariants.{Found}
use Rattle.tac_proxy.specs.declared.told.Source.TheVariants.{Caller}
use Rattle.tac_proxy.proofs.BinaryFacts.{binary_whole}
use Rattle.tac_proxy.proofs.VectorFacts.{length_back, read_written}
use Rattle.tac_proxy.proofs.ProxyLaws.{reads_binary, reads_once}

certificate_back : (vectors : List Vector) → certificate_in (flat_map vector_bytes vectors) ≡ option_map_or ssl_certificate (value_among type_ssl vectors) (Some NotTold)
certificate_back vectors = ap (λ vs. option_and_then (λ value. option_map_or ssl_certificate value (Some NotTold)) (option_map (value_among type_ssl) vs)) (read_written vectors)

-- ---- the addresses and ports of either family

ipv4_told : (used a b c d e f g h p q : ℕ) (rest : List ℕ)
    → told used Tcp4 (a ∷ b ∷ c ∷ d ∷ e ∷ f ∷ g ∷ h ∷ (p / 256) ∷ (p % 256) ∷ (q / 256) ∷ (q % 256) ∷ rest) ≡ found used (Caller (socket_of (Ip.V4 (record { octets = a ∷ b ∷ c ∷ d ∷ [] })) p)) (certificate_in rest)
ipv4_told used a b c d e f g h p q rest = rw (length_back p) refl

ipv4_block : (used p q : ℕ) (x y rest : List ℕ) → length x ≡ 4 → length y ≡ 4 → told used Tcp4 (x ++ (y ++ (two_bytes p ++ (two_bytes q ++ rest)))) ≡ found used (Caller (socket_of (Ip.V4 (record { octets = x })) p)) (certificate_in rest)
ipv4_block used p q x y rest lx ly =
    subst (λ (l : List ℕ). told used Tcp4 (l ++ (y ++ (two_bytes p ++ (two_bytes q ++ rest)))) ≡ found used (Caller (socket_of (Ip.V4 (record { octets = l })) p)) (certificate_in rest)) (sym (four_items x lx))
    (subst (λ (l : List ℕ). told used Tcp4 ((get_or x 0 0 ∷ get_or x 1 0 ∷ get_or x 2 0 ∷ get_or x 3 0 ∷ []) ++ (l ++ (two_bytes p ++ (two_bytes q ++ rest))))
    ≡ found used (Caller (socket_of (Ip.V4 (record { octets = get_or x 0 0 ∷ get_or x 1 0 ∷ get_or x 2 0 ∷ get_or x 3 0 ∷ [] })) p)) (certificate_in rest)) (sym (four_items y ly))
    (ipv4_told used (get_or x 0 0) (get_or x 1 0) (get_or x 2 0) (get_or x 3 0) (get_or y 0 0) (get_or y 1 0) (get_or y 2 0) (get_or y 3 0) p q rest))

ipv6_told : (used a b c d e f g h a' b' c' d' e' f' g' h' p q : ℕ) (rest : List ℕ)
    → told used Tcp6 (octets_of (a ∷ b ∷ c ∷ d ∷ e ∷ f ∷ g ∷ h ∷ []) ++ (octets_of (a' ∷ b' ∷ c' ∷ d' ∷ e' ∷ f' ∷ g' ∷ h' ∷ []) ++ (two_bytes p ++ (two_bytes q ++ rest))))
    ≡ found used (Caller (socket_of (Ip.V6 (record { segments = a ∷ b ∷ c ∷ d ∷ e ∷ f ∷ g ∷ h ∷ [] })) p)) (certificate_in rest)
ipv6_told used a b c d e f g h a' b' c' d' e' f' g' h' p q rest =
    rw (length_back p, length_back a, length_back b, length_back c, length_back d, length_back e, length_back f, length_back g, length_back h) refl

ipv6_block : (used p q : ℕ) (x y rest : List ℕ) → length x ≡ 8 → length y ≡ 8
    → told used Tcp6 (octets_of x ++ (octets_of y ++ (two_bytes p ++ (two_bytes q ++ rest)))) ≡ found used (Caller (socket_of (Ip.V6 (record { segments = x })) p)) (certificate_in rest)
ipv6_block used p q x y rest lx ly =
    let xs = get_or x 0 0 ∷ get_or x 1 0 ∷ get_or x 2 0 ∷ get_or x 3 0 ∷ get_or x 4 0 ∷ get_or x 5 0 ∷ get_or x 6 0 ∷ get_or x 7 0 ∷ [] in
    subst (λ (l : List ℕ). told used Tcp6 (octets_of l ++ (octets_of y ++ (two_bytes p ++ (two_bytes q ++ rest)))) ≡ found used (Caller (socket_of (Ip.V6 (record { segments = l })) p)) (certificate_in rest)) (sym (eight_items x lx))
    (subst (λ (l : List ℕ). told used Tcp6 (octets_of xs ++ (octets_of l ++ (two_bytes p ++ (two_bytes q ++ rest)))) ≡ found used (Caller (socket_of (Ip.V6 (record { segments = xs })) p)) (certificate_in rest)) (sym (eight_items y ly))
    (ipv6_told used (get_or x 0 0) (get_or x 1 0) (get_or x 2 0) (get_or x 3 0) (get_or x 4 0) (get_or x 5 0) (get_or x 6 0) (get_or x 7 0) (get_or y 0 0) (get_or y 1 0) (get_or y 2 0) (get_or y 3 0) (get_or y 4 0) (get_or y 5 0) (get_or y 6 0) (get_or y 7 0) p q rest))

length-octets_of : (x : List ℕ) → length (octets_of x) ≡ length x + length x
length-octets_of [] = refl
length-octets_of (s ∷ x) = omega (arith, length-octets_of x)

-- ---- the sixteen bytes before them

-- the first sixteen bytes, with this size, and what follows
abbrev framed : ℕ → ℕ → List ℕ → List ℕ
framed kind size tail =
    0x0D ∷ 0x0A ∷ 0x0D ∷ 0x0A ∷ 0x00 ∷ 0x0D ∷ 0x0A ∷ 0x51 ∷ 0x55 ∷ 0x49 ∷ 0x54 ∷ 0x0A ∷ 0x21 ∷ kind ∷ (size / 256) ∷ (size % 256) ∷ tail

framed_read : (kind size : ℕ) (transport : Transport) (block rest : List ℕ) → is_kind 0x21 kind ≡ true → transport_of 0x21 kind ≡ transport → length block ≡ size → addresses_size transport ≤ size → size ≤ 520
    → told (16 + size) transport block ≡ binary (framed kind size (block ++ rest))
framed_read kind size transport block rest kind_ok carries long least most =
    let w = framed kind size (block ++ rest) in
    let all : 16 + size ≤ length w = omega (arith, length-append block rest) in
    let refused : is_refused (length w) w ≡ false = rw (lt-ltb 12 (length w) (omega arith), lt-ltb 13 (length w) (omega arith), kind_ok) refl in
    let right : (nat_lt most_bytes size || nat_lt size (addresses_size transport)) ≡ false = rw (le-ltb 520 size most, le-ltb size (addresses_size transport) least) refl in
    binary_whole w size transport block (told (16 + size) transport block) refused (omega arith) (sym (length_back size)) (sym carries) right all (sym (take_at block rest size long)) refl

found_certificate : (used : ℕ) (call : Call) (certificate : Certificate) → used ≡ 16 + length (call_bytes call) → certificate_told call ≡ Some certificate
    → found used (Caller (socket_of call.source call.source_port)) (certificate_in (flat_map vector_bytes call.vectors)) ≡ Found (call_header call certificate)
found_certificate used call certificate is e = rw (is, certificate_back call.vectors ∙ e) refl

six_or_four : (a b : ℕ) → a ≡ b → a ≡ 54 → b ≡ 52 → ⊥
six_or_four a b same six four = omega arith

apart : codes "TCP6" ≡ codes "TCP4" → ⊥
apart e = six_or_four (get_or (codes "TCP6") 3 0) (get_or (codes "TCP4") 3 0) (ap (λ (t : List ℕ). get_or t 3 0) e) refl refl

call_by : (s t : IpAddr) (p q : ℕ) (vectors : List Vector) (rest : List ℕ) (certificate : Certificate) → CanBeWritten (record { source = s; source_port = p; target = t; target_port = q; vectors = vectors })
    → certificate_told (record { source = s; source_port = p; target = t; target_port = q; vectors = vectors }) ≡ Some certificate
    → Found (call_header (record { source = s; source_port = p; target = t; target_port = q; vectors = vectors }) certificate)
    ≡ binary (written (record { source = s; source_port = p; target = t; target_port = q; vectors = vectors }) ++ rest)
call_by (Ip.V4 a) (Ip.V4 b) p q vectors rest certificate can e =
    let call : Call = record { source = Ip.V4 a; source_port = p; target = Ip.V4 b; target_port = q; vectors = vectors } in
    let block = call_bytes call in
    let long : 12 ≤ length block = simp length-append (omega (arith, can.source.0, can.target.0)) in
    let whole = ipv4_block (16 + length block) p q a.octets b.octets (flat_map vector_bytes vectors) can.source.0 can.target.0 in
    sym (whole ∙ found_certificate (16 + length block) call certificate refl e) ∙ framed_read 0x11 (length block) Tcp4 block rest refl refl refl long can.short
call_by (Ip.V6 a) (Ip.V6 b) p q vectors rest certificate can e =
    let call : Call = record { source = Ip.V6 a; source_port = p; target = Ip.V6 b; target_port = q; vectors = vectors } in
    let block = call_bytes call in
    let long : 36 ≤ length block = simp length-append (omega (arith, can.source.0, can.target.0, length-octets_of a.segments, length-octets_of b.segments)) in
    let whole = ipv6_block (16 + length block) p q a.segments b.segments (flat_map vector_bytes vectors) can.source.0 can.target.0 in
    sym (whole ∙ found_certificate (16 + length block) call certificate refl e) ∙ framed_read 0x21 (length block) Tcp6 block rest refl refl refl long can.short
call_by (Ip.V4 a) (Ip.V6 b) p q vectors rest certificate can e = absurd (apart can.one_family)
call_by (Ip.V6 a) (Ip.V4 b) p q vectors rest certificate can e = absurd (apart (sym can.one_family))

-- a caller that a proxy writes is read, whatever follows
pub call_read : (bytes : List ℕ) (proxy : Proxy) → Reads bytes proxy → (call : Call) (rest : List ℕ) (certificate : Certificate) → CanBeWritten call → certificate_told call ≡ Some certificate → bytes ≡ written call ++ rest → proxy ≡ Found (call_header call certificate)
call_read bytes proxy read call rest certificate can e is =
    let w = written call ++ rest in
    let header = Found (call_header call certificate) in
    reads_once bytes proxy header read (subst (λ (t : List ℕ). Reads t header) (sym is) (reads_binary w header refl (call_by call.source call.target call.source_port call.target_port call.vectors rest certificate can e)))
