-- How answers are printed and counted, in every report. This file is to be believed.
use Rattle.std.specs.Prelude.{ℕ, cond, List, [], ◌∷◌, ◌++◌, eqb}
use Rattle.spelling.specs.Numbers.{ascii, digits}

-- the front of an answer's line: the number of the line that is answered, from 1, and the answer
abbrev pub answer_text : ℕ → ℕ → List ℕ
answer_text k a = ascii "line=" ++ (digits k ++ (ascii " answer=" ++ digits a))

-- the last line: the number of lines, and of lines not answered 0
abbrev pub totals : ℕ → ℕ → List ℕ
totals lines refused = ascii "lines=" ++ (digits lines ++ (ascii " refused=" ++ (digits refused ++ (10 ∷ []))))

-- what an answer adds to the lines not answered 0
abbrev pub refusal_of : ℕ → ℕ
refusal_of a = cond (eqb a 0) 0 1

-- all that is printed of a text that gets no report
abbrev pub refusal_text : ℕ → List ℕ
refusal_text k = ascii "refused=" ++ (digits k ++ (10 ∷ []))
