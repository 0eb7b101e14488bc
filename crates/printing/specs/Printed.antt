-- What a program prints of a text, and what it needs to know of the reports that it prints. This file is to be believed.
use Rattle.std.specs.Prelude.{ℕ, cond, List, ◌≡◌, ◌<◌, ◌≤◌, ◌^◌, leb, length}
use Rattle.spelling.specs.Answers.{refusal_text}
use Rattle.reports.specs.Reported.{longest, number_for}

-- the text's report, or the line of refusal 23 where it is too long
unfoldable pub printed : (List ℕ → List ℕ) → List ℕ → List ℕ
printed report text = cond (leb (length text) longest) (report text) (refusal_text 23)

-- no report is empty, and a room of so many bytes, which a machine can have, holds the report of every text that is not too long
pub record HeldBy (bytes : ℕ) (report : List ℕ → List ℕ) : Type 0 where
  pub room : bytes < 2 ^ 63
  pub some : (text : List ℕ) → 1 ≤ length (report text)
  pub enough : (text lent : List ℕ) → length text ≤ longest → bytes ≤ length lent → number_for text (report text) lent ≡ 0
