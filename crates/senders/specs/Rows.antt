-- Which row of the book each case of `Row` stands for. This file is to be believed.
use Rattle.senders.specs.declared.Row.{Row}
use Rattle.senders.specs.declared.Row.TheVariants.{Unknown, Joined, Ended}
use Rattle.book.specs.Book as book

unfoldable pub row_is : Row → book.Row
row_is Unknown = book.unknown
row_is (Joined f o) = book.joined f.0 o.0
row_is (Ended f o e) = book.ended f.0 o.0 e.0
