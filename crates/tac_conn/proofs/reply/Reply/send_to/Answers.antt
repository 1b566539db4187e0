use Rattle.std.proofs.Common.{◌≡◌, ◌+◌, ◌-◌, ap, ◌∙◌, ◌++◌, ◌∷◌, [], List, ℕ, length, take, drop, refl, arith, rules}
use Rattle.std.proofs.lemmas.List.{length-append}
use Rattle.tac_wire.specs.Door.{closed}
use Rattle.tac_wire.specs.Header.{header_bytes}
use Rattle.tac_wire.specs.declared.header.Header.{Header}
use Rattle.tac_conn.specs.Reply.{body_bytes}
use Rattle.tac_conn.proofs.SentFacts.{sealed_so, sent_whole, length-sent}
use Rattle.tac_conn.proofs.reply.Reply.send_to.Goals as goal

pub returns-clause-value : goal.returns-clause-value
returns-clause-value c =
    let body = body_bytes c.args.self.now.body in
    let before : List ℕ = c.args.out.now.items in
    let place : List ℕ = 0 ∷ 0 ∷ 0 ∷ 0 ∷ 0 ∷ 0 ∷ 0 ∷ 0 ∷ 0 ∷ 0 ∷ 0 ∷ 0 ∷ [] in
    let at : c.len-start.result ≡ length before = search rules in
    let is : c.write.new.out.items ≡ before ++ place ++ body = search rules in
    let end : c.len.result ≡ length c.write.new.out.items = search rules in
    let len : c.len.result - c.len-start.result - 12 ≡ length body =
    omega (arith, at, end, ap (λ (l : List ℕ). length l) is, length-append (before ++ place) body, length-append before place) in
    let written = c.write.new.out.items in
    let start = c.len-start.result in
    let as_marked : Header → List ℕ = λ header. take start written ++ header_bytes header ++ closed c.args.door.now header (drop (start + 12) written) in
    sealed_so c.args.door.now before place body written c.seal_last.new.out.items c.args.self.now.header start _ at refl is len (c.seal_last.ensures ∙ ap as_marked c.mark.ensures)

pub returns-clause-whole : goal.returns-clause-whole
returns-clause-whole c =
    sent_whole c.args.door.now (body_bytes c.args.self.now.body) c.args.self.now.header (omega (arith, c.write.ensures.fits))

pub returns-clause-bound : goal.returns-clause-bound
returns-clause-bound c =
    let body = body_bytes c.args.self.now.body in
    omega (arith, c.write.ensures.fits, length-sent c.args.door.now body (record c.args.self.now.header { length = length body }))
