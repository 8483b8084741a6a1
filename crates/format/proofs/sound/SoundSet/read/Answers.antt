use Rattle.format.specs.declared.faces.Faces.{Faces}
use Rattle.format.proofs.Sets.{set_spells}
use Rattle.format.proofs.sound.SoundSet.read.Goals as goal

pub returns-clause-spells : goal.returns-clause-spells
returns-clause-spells c =
    let rows = c.rows-h.ensures in
    let tops = c.tops-tops.ensures in
    let s : Faces = record {
      n = c.args.self.now.design.n;
      count = c.args.self.now.faces;
      h = c.rows-h.result;
      tops = c.tops-tops.result;
      sized = c.args.self.now.known.sized;
      above = tops.above;
      blank = (rows.blank, tops.blank);
    } in
    set_spells c.args.self.now.bytes.now s c.args.self.now.known rows tops
