-- One turn takes eight bytes by their two words; then one takes one byte, by its entry and the rest of the register, moved up.
use Rattle.std.proofs.Common.{◌≡◌, ℕ, ◌-◌, ◌*◌, ◌/◌, ◌%◌, ◌^◌, ◌<◌, Bool, List, [], length, drop, get_or, sym, ap, ◌∙◌, ap₂, arith, lit≤, rules, get_or-drop}
use lib.Bits.{bit_xor}
use Rattle.std.specs.Int.{w32, from_be_bytes}
use Rattle.sector.specs.Bits.{ones_of, fed}
use Rattle.check_code.specs.Code.{Code, enter}
use Rattle.check_code.specs.Aligned.{aligned, steps}
use Rattle.check_code.proofs.Aligned.{remainder_aligned}
use Rattle.check_code.proofs.Bytes.{register_more}
use Rattle.check_code.proofs.Table.{byte_step}
use Rattle.check_code.proofs.Words.{chunk_more, both_parts}
use Rattle.check_code.proofs.code.register_after.Goals as goal

pub loop-eight-preserved : goal.loop-eight-preserved
loop-eight-preserved g c =
    let a : Code = aligned g.C.CheckCode.code in
    let l = c.loop-eight in
    let bytes = c.args.bytes.now in
    let i : ℕ = l.eight-index in
    let n : ℕ = length bytes / 8 in
    let inside : i < n = omega arith in
    let chunk : List ℕ = get_or c.as_chunks.result.0.now i [] in
    let e = ap (λ xs. get_or xs i []) c.as_chunks.ensures.front in
    let small : (k : ℕ) → get_or bytes k 0 < 256 = λ k. search (rules, c.type_inv.bytes k) in
    let second : c.from_be_bytes-second.result ≡ from_be_bytes w32 (drop 4 chunk) =
    omega (arith, c.from_be_bytes-second.ensures, get_or-drop 4 chunk 0 0, get_or-drop 4 chunk 1 0, get_or-drop 4 chunk 2 0, get_or-drop 4 chunk 3 0) in
    ap₂ bit_xor
    (c.shifted_by_four.ensures ∙ ap (steps a 32) second)
    (c.shifted_by_eight.ensures ∙ ap₂ (λ x y. steps a 64 (bit_xor x y)) l.invariant c.from_be_bytes-first.ensures)
    ∙ sym (chunk_more g.C.CheckCode.code (c.args.from * 2 ^ (32 - c.WIDTH.result) % 2 ^ 32) bytes n i inside chunk e small)

pub loop-byte-preserved : goal.loop-byte-preserved
loop-byte-preserved g c =
    let code : Code = g.C.CheckCode.code in
    let l = c.loop-byte in
    let rest = c.as_chunks.result.1.now in
    let b : ℕ = get_or rest l.byte-index 0 in
    let small : l.register < 2 ^ 32 = search rules in
    let byte : b < 256 = search rules in
    ap (bit_xor (l.register * 2 ^ 8 % 2 ^ 32)) c.shifted.ensures
    ∙ byte_step code l.register b small byte
    ∙ ap (λ x. steps (aligned code) 8 (bit_xor x (b * 2 ^ 24))) l.invariant
    ∙ sym (register_more (aligned code) (lit≤ tt) c.loop-eight.register rest l.byte-index byte)

pub returns : goal.returns
returns g c =
    let code : Code = g.C.CheckCode.code in
    let f : ℕ → Bool → ℕ = enter (aligned code) in
    let l = c.loop-byte in
    let eights = c.loop-eight in
    let bytes = c.args.bytes.now in
    let start : ℕ = c.args.from * 2 ^ (32 - c.WIDTH.result) % 2 ^ 32 in
    l.invariant
    ∙ ap (λ v. fed f v (ones_of c.as_chunks.result.1.now) (8 * l.byte-index)) eights.invariant
    ∙ both_parts f start bytes c.as_chunks.result.1.now c.as_chunks.ensures.back eights.eight-index l.byte-index (omega arith) (omega arith)
    ∙ ap (λ w. fed f (c.args.from * 2 ^ (32 - w) % 2 ^ 32) (ones_of bytes) (8 * length bytes)) (c.WIDTH.ensures ∙ g.met.C.CheckCode.width_is)
    ∙ remainder_aligned code g.met.C.CheckCode.sound.most c.args.from (ones_of bytes) (8 * length bytes)
