-- What is promised of a row settles it: different rows of the code stand for different rows of the book. Assumes nothing.
use mathlib.Core.Path.{◌≡◌, refl, sym, ap, ◌∙◌}
use Rattle.book.specs.Book as book
use Rattle.senders.specs.declared.Row.{Row}
use Rattle.senders.specs.declared.Row.TheVariants.{Unknown, Joined, Ended}
use Rattle.senders.specs.Rows.{row_is}

-- the row that one stands for
abbrev standing : book.Row → Row
standing book.unknown = Unknown
standing (book.joined f o) = Joined (record { 0 = f }) (record { 0 = o })
standing (book.ended f o e) = Ended (record { 0 = f }) (record { 0 = o }) (record { 0 = e })

standing_is : (r : Row) → standing (row_is r) ≡ r
unfolding row_is
standing_is Unknown = refl
standing_is (Joined f o) = refl
standing_is (Ended f o e) = refl

pub row_settled : (r q : Row) → row_is r ≡ row_is q → r ≡ q
row_settled r q e = sym (standing_is r) ∙ ap standing e ∙ standing_is q
