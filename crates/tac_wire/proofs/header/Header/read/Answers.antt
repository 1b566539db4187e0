use Rattle.std.proofs.Common.{◌≡◌, take, drop, arith}
use Rattle.std.specs.Int.{w32, from_be_bytes}
use Rattle.tac_wire.proofs.HeaderFacts.{header_bytes-header_of}
use Rattle.tac_wire.proofs.header.Header.read.Goals as goal

pub returns-clause-found : goal.returns-clause-found
returns-clause-found c =
    let session : c.read_u32.result ≡ from_be_bytes w32 (take 4 (drop 4 c.args.bytes.now)) = omega (arith, c.read_u32.ensures) in
    let len : c.read_u32-2.result ≡ from_be_bytes w32 (take 4 (drop 8 c.args.bytes.now)) = omega (arith, c.read_u32-2.ensures) in
    rw (session, len) (header_bytes-header_of c.args.bytes.now c.told-bytes c.fits-bytes)
