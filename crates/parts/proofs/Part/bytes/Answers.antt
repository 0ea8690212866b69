use Rattle.std.proofs.Common.{◌≡◌, ◌+◌, ◌-◌, refl, arith}
use Rattle.bench_text.specs.Text.{bytes_of}
use Rattle.parts.proofs.Part.bytes.Goals as goal

pub returns : goal.returns
unfolding bytes_of
returns c =
    let whole : c.args.self.at + c.args.self.size - c.args.self.at ≡ c.args.self.size = omega arith in
    record { bytes = rw whole; place = (refl, refl) }
