-- What a front keeps.
use Rattle.std.specs.Prelude.{◌≡◌, ℕ, Bool, false, List, [], length, filter, Option, Some}
use Rattle.logbook.specs.Pages.{Book}
use Rattle.hay_front.specs.declared.book.Line.{Line}
use Rattle.hay_front.specs.Fronts.{Witness, witness}
use Rattle.hay_front.specs.Pairs.{PairState}

-- readers take what was published, and the log has a tag for each deed of it that counts; while the front is open the history is
-- that, and readers see each operation
pub record IsFront {M B D S O Q : Type 0} (counts : D → Bool) (book_of : S → Book) (log_of : S → List (Line M B D)) (pair : Option (PairState S O Q))
    (history shown : Witness M B D) (tags : ℕ) (closed : Bool) : Type 0 where
  pub there : (p : PairState S O Q) × (pair ≡ Some p) × (witness (book_of p.shown) (log_of p.shown) ≡ shown) × (closed ≡ false → p.pending ≡ [])
  pub whole : closed ≡ false → history ≡ shown
  pub log_is : tags ≡ length (filter counts shown.deeds)
