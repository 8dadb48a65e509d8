use Rattle.std.proofs.Common.{◌≤◌, ◌<◌, ◌^◌, zero, arith}
use Rattle.std.proofs.Math.Nat.{pow-le-pow_right}
use Rattle.csv_tables.proofs.fields.power_of_ten.Goals as goal

pub returns-clause-most : goal.returns-clause-most
returns-clause-most c =
    let ten : zero < 10 = omega arith in
    let m : 10 ^ c.args.exponent ≤ 10 ^ 18 = pow-le-pow_right ten c.requires in
    omega (arith, m, c.pow.ensures)
