use Rattle.std.proofs.Common.{arith}
use borrow.Author.Differences.{ints}
use Rattle.format.specs.declared.certificate.Certificate.{Certificate}
use Rattle.format.proofs.Sheets.{sheet_spells}
use Rattle.format.proofs.sound.SoundSheet.read.Goals as goal

pub returns-clause-spells : goal.returns-clause-spells
returns-clause-spells c =
    let range = c.args.self.now.known.ranged 0 (omega arith) in
    let is = c.natural_at-scale.ensures in
    let m = c.multipliers-m.ensures in
    let w = rw c.of-at.ensures.w at c.multipliers-w.ensures in
    let v = rw c.of-at.ensures.v at c.multipliers-v.ensures in
    let t : Certificate = record {
      n = c.args.self.now.set.design.n;
      count = c.args.self.now.set.faces;
      scale = c.natural_at-scale.result;
      m = c.multipliers-m.result;
      w = c.multipliers-w.result;
      v = c.multipliers-v.result;
      sized = c.args.self.now.known.sized;
      scaled = (omega (arith, ints, is, range), omega (arith, ints, is, range));
      above = λ s. (m.above s, w.above s, v.above s);
      blank = (m.blank, w.blank, v.blank);
    } in
    sheet_spells c.args.self.now.bytes.now t c.args.self.now.known is m w v
