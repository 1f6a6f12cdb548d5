-- Engines with a path over a bin.
--   paper_of     the path, the stacked sheets and the room of the bin
--   path_sound   the path is never longer than its places
--   AsAnswered   the bin after an advance: a stacked sheet is put behind the others, and after another answer the bin is
--                as it was
use Rattle.std.specs.Prelude.{◌≡◌, ℕ}
use Rattle.engine.specs.declared.sheet.Sheet.{Sheet}
use Rattle.engine.specs.declared.sheet.Advanced.{Advanced}
use Rattle.engine.specs.declared.sheet.Advanced.TheVariants.{Stacked, PathEmpty, BinFull}
use Rattle.engine.specs.Engines.{Paper, paper, Sound}
use Rattle.engines.specs.Soundness.{sound_path}
use Rattle.engines.specs.declared.bin.Bin.{Ghosts}
use Rattle.engines.specs.declared.path.PathEngine.{PathEngine}

abbrev pub paper_of : {B : Type 0} {K : ℕ} {m : Ghosts B} → PathEngine B K m → Paper
paper_of {m = m} e = paper e.path (m.sheets e.bin) (m.room e.bin)

pub path_sound : {B : Type 0} {K : ℕ} {m : Ghosts B} (e : PathEngine B K m) → Sound K e.path
path_sound e = sound_path _ e.path e.some e.few e.short

abbrev pub AsAnswered : {B : Type 0} → (B → Sheet → B → Type 0) → Advanced → B → B → Type 0
AsAnswered gives (Stacked s) before after = gives before s after
AsAnswered gives PathEmpty before after = after ≡ before
AsAnswered gives BinFull before after = after ≡ before
