use Rattle.std.proofs.Common.{List, ℕ, [], ◌∷◌, ◌++◌, take, get_or, ap, sym, ◌∙◌, arith, append-nil, append_assoc}
use Rattle.std.proofs.lemmas.List.{take_more}
use Rattle.hex.specs.Hex.{encode_lower}
use Rattle.csp_tap.proofs.Digits.{encode_none, encode_append}
use Rattle.csp_tap.proofs.words.put_bytes.Goals as goal

pub loop-byte-init : goal.loop-byte-init
loop-byte-init c = record {
  written = sym (ap (λ ds. c.push.new.self.items ++ ds) encode_none ∙ append-nil c.push.new.self.items);
  room = omega arith;
}

pub loop-byte-preserved : goal.loop-byte-preserved
loop-byte-preserved c =
    let before : List ℕ = c.push.new.self.items in
    let bytes : List ℕ = c.args.bytes.now in
    let index : ℕ = c.loop-byte.byte-index in
    let byte : List ℕ = get_or bytes index 0 ∷ [] in
    record {
      written = c.put_pair.ensures.items
          ∙ ap (λ items. items ++ encode_lower byte) c.loop-byte.invariant.written
          ∙ append_assoc before (encode_lower (take index bytes)) (encode_lower byte)
          ∙ ap (λ ds. before ++ ds) (sym (ap encode_lower (take_more bytes index 0 (omega arith)) ∙ encode_append (take index bytes) byte));
      room = omega (arith, c.loop-byte.invariant.room, c.put_pair.ensures.fits);
    }
