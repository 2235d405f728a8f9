-- What was moved up to the top of 32 bits is moved down again.
use Rattle.std.proofs.Common.{◌-◌, ◌/◌, ◌^◌, ◌∙◌, ap₂}
use lib.Pow.{shl-shr}
use Rattle.check_code.specs.Code.{Code, width, remainder_of}
use Rattle.check_code.proofs.code.remainder.Goals as goal

pub returns : goal.returns
returns g c =
    let code : Code = g.C.CheckCode.code in
    ap₂ (λ x w. x / 2 ^ (32 - w)) c.register_after.ensures (c.WIDTH.ensures ∙ g.met.C.CheckCode.width_is)
    ∙ shl-shr (remainder_of code c.args.from c.args.bytes.now) (32 - width code)
