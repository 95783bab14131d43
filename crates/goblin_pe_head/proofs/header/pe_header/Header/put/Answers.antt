use Rattle.std.proofs.Common.{◌≡◌, ◌+◌, [], ◌++◌, length, arith, ap, sym, ◌∙◌, append-nil}
use Rattle.goblin_base.specs.Bytes.{replaced}
use Rattle.goblin_base.proofs.Writing.{length-replaced, written_then}
use Rattle.goblin_pe_head.specs.PeHeader.{header_parts}
use Rattle.goblin_pe_head.proofs.header.pe_header.Header.put.Goals as goal

pub returns-clause-written : goal.returns-clause-written
unfolding header_parts
returns-clause-written c =
    let old = c.args.bytes.now in
    let stub = c.args.self.now.dos_stub.bytes.now in
    let dos = c.to_bytes.result in
    let signature = c.encode_fields-signature.result in
    let coff = c.encode-coff.result in
    let optional = c.args.optional.now in
    let at = 64 + length stub in
    let one = c.put_bytes.new.bytes in
    let two = c.put_bytes-2.new.bytes in
    let three = c.put_bytes-3.new.bytes in
    let four = c.put_bytes-4.new.bytes in
    let five = c.put_bytes-5.new.bytes in
    let long_1 : length one ≡ length old = ap length c.put_bytes.ensures ∙ length-replaced old 0 dos (omega (arith, c.requires)) in
    let long_2 : length two ≡ length old = ap length c.put_bytes-2.ensures ∙ length-replaced one 64 stub (omega (arith, c.requires, long_1)) ∙ long_1 in
    let long_3 : length three ≡ length old = ap length c.put_bytes-3.ensures ∙ length-replaced two at signature (omega (arith, c.requires, long_2)) ∙ long_2 in
    let last : five ≡ replaced four (at + 24) (optional ++ []) = c.put_bytes-5.ensures ∙ ap (replaced four (at + 24)) (sym (append-nil optional)) in
    let after_3 = written_then three four five (at + 4) (at + 24) coff (optional ++ []) (omega arith) (omega (arith, c.requires, long_3)) c.put_bytes-4.ensures last in
    let after_2 = written_then two three five at (at + 4) signature (coff ++ (optional ++ [])) (omega arith) (omega (arith, c.requires, long_2)) c.put_bytes-3.ensures after_3 in
    let after_1 = written_then one two five 64 at stub (signature ++ (coff ++ (optional ++ []))) (omega arith) (omega (arith, c.requires, long_1)) c.put_bytes-2.ensures after_2 in
    let all : five ≡ replaced old 0 (dos ++ (stub ++ (signature ++ (coff ++ (optional ++ []))))) = written_then old one five 0 64 dos (stub ++ (signature ++ (coff ++ (optional ++ [])))) (omega arith) (omega (arith, c.requires)) c.put_bytes.ensures after_1 in
    rw (sym c.to_bytes.ensures.made, sym c.encode_fields-signature.ensures.made, sym c.encode-coff.ensures.made) all
