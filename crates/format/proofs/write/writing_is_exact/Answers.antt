use Rattle.format.proofs.Spelling.{one_spelling}
use Rattle.format.proofs.Unique.{one_claim}
use Rattle.format.proofs.Written.{written_sound}
use Rattle.format.proofs.write.writing_is_exact.Goals as goal

pub returns : goal.returns
returns c = record {
  reads_back = λ design set sheet claim h. (written_sound design set sheet claim h, λ other g. one_claim design set sheet other claim g h);
  writes_back = λ design set sheet design' set' sheet' claim b b' h h'. (
    one_spelling _ _ _ _ b.0 b'.0 h.of_design h'.of_design,
    one_spelling _ _ _ _ b.1 b'.1 h.of_set h'.of_set,
    one_spelling _ _ _ _ b.2 b'.2 h.of_sheet h'.of_sheet,
  );
}
