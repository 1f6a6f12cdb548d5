-- What the host is told of a page that is not received.
--   refusal_for   its refusal
use Rattle.refusal.specs.declared.Refusal.{Refusal}
use Rattle.refusal.specs.declared.Refusal.TheVariants as refusals
use Rattle.spool.specs.declared.page.NotReceived.{NotReceived}
use Rattle.spool.specs.declared.page.NotReceived.TheVariants.{SixteenWait, PagesSpent, CopiesSpent}

abbrev pub refusal_for : NotReceived → Refusal
refusal_for SixteenWait = refusals.SixteenWait
refusal_for PagesSpent = refusals.PagesSpent
refusal_for CopiesSpent = refusals.CopiesSpent
