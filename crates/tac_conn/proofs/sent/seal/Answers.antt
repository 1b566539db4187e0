use Rattle.std.proofs.Common.{◌≡◌, ℕ, ◌+◌, ◌++◌, List, take, drop, sym, ap, ◌∙◌, append_assoc}
use Rattle.std.proofs.lemmas.List.{drop-drop}
use Rattle.tac_wire.specs.Header.{header_bytes}
use Rattle.tac_wire.specs.Door.{closed}
use Rattle.tac_conn.proofs.sent.seal.Goals as goal

pub returns-clause-sealed : goal.returns-clause-sealed
returns-clause-sealed c =
    let bytes = c.args.bytes.now in
    let header = c.args.header.now in
    let front : c.split_at_mut-packet.result.0.now ≡ take c.args.start bytes = c.split_at_mut-packet.ensures.front in
    let head : c.copy_from_slice.new.self ≡ header_bytes header = c.copy_from_slice.ensures.after ∙ c.write.ensures.value in
    let body : c.split_at_mut-head.result.1.now ≡ drop (c.args.start + 12) bytes =
    c.split_at_mut-head.ensures.back ∙ ap (λ (l : List ℕ). drop 12 l) c.split_at_mut-packet.ensures.back ∙ drop-drop 12 c.args.start bytes in
    let rest : c.close.new.body ≡ closed c.args.door.now header (drop (c.args.start + 12) bytes) = c.close.ensures.value ∙ ap (closed c.args.door.now header) body in
    ap (λ (l : List ℕ). l ++ (c.copy_from_slice.new.self ++ c.close.new.body)) front
    ∙ ap (λ (l : List ℕ). take c.args.start bytes ++ (l ++ c.close.new.body)) head
    ∙ ap (λ (l : List ℕ). take c.args.start bytes ++ (header_bytes header ++ l)) rest
    ∙ sym (append_assoc (take c.args.start bytes) (header_bytes header) (closed c.args.door.now header (drop (c.args.start + 12) bytes)))
