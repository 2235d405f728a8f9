-- What the four check bytes hold, moved down, is the delivered check.
use Rattle.std.proofs.Common.{◌≡◌, ℕ, ◌+◌, ◌-◌, ◌/◌, ◌^◌, sym, ap, ◌∙◌, ap₂, arith, rules}
use Rattle.sector.specs.Bits.{ones_of, first_bits}
use Rattle.sector.proofs.Fed.{first_bits_front}
use Rattle.check_code.specs.Code.{Code, width}
use Rattle.check_code.proofs.Bytes.{four_held}
use Rattle.check_code.proofs.code.delivered.Goals as goal

pub returns : goal.returns
returns g c =
    let code : Code = g.C.CheckCode.code in
    let check = c.args.check in
    let k : ℕ = 32 - width code in
    let most = g.met.C.CheckCode.sound.most in
    let all : 32 ≡ width code + k = omega arith in
    let held : c.from_be_bytes.result ≡ first_bits (width code + k) (ones_of check) =
    c.from_be_bytes.ensures ∙ sym (four_held check (search rules) (search rules) (search rules) (search rules)) ∙ ap (λ n. first_bits n (ones_of check)) all in
    ap₂ (λ x w. x / 2 ^ (32 - w)) held (c.WIDTH.ensures ∙ g.met.C.CheckCode.width_is) ∙ first_bits_front (ones_of check) (width code) k
