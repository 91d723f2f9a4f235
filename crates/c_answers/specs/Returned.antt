-- How an answer of document 01 reaches a C program: a number that is returned, and numbers lent for the rest.
use Rattle.std.specs.Prelude.{ℕ, ◌+◌, ◌*◌, ◌%◌, ◌≡◌, Bool, true, false, List, ℤ}
use Rattle.counts.specs.Result.{Result, refused, done}
use Rattle.session_name.specs.declared.Kind.{Kind}
use Rattle.job.specs.declared.StatementAt.{StatementAt}
use Rattle.c_numbers.specs.Statements.{statement_numbers}
use Rattle.c_numbers.specs.Kinds.{kind_number}

-- 56 bits tell the places below this apart. No place reaches it: a program on x86-64 or 64-bit Arm has fewer bytes of memory.
abbrev pub place_limit : ℕ
place_limit = 72057594037927936

-- "A refusal returns its number, the place for 3 to 6 in a file (else 0)", P1: "7, reading with the start of the first line that doesn't fit", and P2:
-- "15 to 17 where 3 stood and 18 where 4 did": 0 where there is none, else 64 bits, the number in the low eight and the place in the 56 above.
abbrev pub returned : {A : Type 0} → Result A → ℕ
returned (refused number place) = number % 256 + 256 * (place % place_limit)
returned (done x) = 0

-- What is lent for a part of the answer: that part, or what stood there, since a refusal "changes no lent byte or entry".
abbrev pub left_in : {A B : Type 0} → B → (A → B) → Result A → B
left_in before part (refused number place) = before
left_in before part (done x) = part x

-- ---- what a call makes of its answer: what it returns, and what it leaves in each number lent to it

-- of a count of bytes or statements
abbrev pub GivesCount : Result ℕ → ℕ → ℕ → ℕ → Type 0
GivesCount a r count count' = (r ≡ returned a) × (count' ≡ left_in count (λ x. x) a)

-- of a session's number and kind of file
abbrev pub GivesName : Result (ℕ × Kind) → ℕ → ℕ → ℕ → ℕ → ℕ → Type 0
GivesName a r number number' kind kind' =
    (r ≡ returned a) × (number' ≡ left_in number (λ x. x.0) a) × (kind' ≡ left_in kind (λ x. kind_number x.1) a)

-- of a placing: session number and ticket
abbrev pub GivesPlaced : Result (ℕ × ℕ) → ℕ → ℕ → ℕ → ℕ → ℕ → Type 0
GivesPlaced a r number number' ticket ticket' =
    (r ≡ returned a) × (number' ≡ left_in number (λ x. x.0) a) × (ticket' ≡ left_in ticket (λ x. x.1) a)

-- of a take up: "number, ticket, command"
abbrev pub GivesTaken : Result (ℕ × ℕ × ℕ) → ℕ → ℕ → ℕ → ℕ → ℕ → ℕ → ℕ → Type 0
GivesTaken a r number number' ticket ticket' command command' =
    (r ≡ returned a)
    × (number' ≡ left_in number (λ x. x.0) a)
    × (ticket' ≡ left_in ticket (λ x. x.1) a)
    × (command' ≡ left_in command (λ x. x.2) a)

-- of a decision: 1 where the clause is due, else 0
abbrev pub due_number : Bool → ℕ
due_number true = 1
due_number false = 0

abbrev pub GivesDue : Result Bool → ℕ → ℕ → ℕ → Type 0
GivesDue a r due due' = (r ≡ returned a) × (due' ≡ left_in due due_number a)

-- of a report: its columns, and its lines of values
abbrev pub GivesReport : Result (ℕ × ℕ) → ℕ → ℕ → ℕ → ℕ → ℕ → Type 0
GivesReport a r columns columns' lines lines' =
    (r ≡ returned a) × (columns' ≡ left_in columns (λ x. x.0) a) × (lines' ≡ left_in lines (λ x. x.1) a)

-- of something that is read into an array of numbers
abbrev pub GivesNumbers : {A : Type 0} → (A → List ℕ) → Result A → ℕ → List ℕ → List ℕ → Type 0
GivesNumbers part a r numbers numbers' = (r ≡ returned a) × (numbers' ≡ left_in numbers part a)

-- of a statement with its own offset and the place after its ;
abbrev pub GivesStatement : Result StatementAt → ℕ → List ℕ → List ℕ → ℤ → ℤ → Type 0
GivesStatement a r numbers numbers' mantissa mantissa' =
    GivesNumbers (λ x. (statement_numbers x.statement x.offset x.next).numbers) a r numbers numbers'
    × (mantissa' ≡ left_in mantissa (λ x. (statement_numbers x.statement x.offset x.next).mantissa) a)

-- The version of the calls that the header declares: one more with each change of a name, a type, a number or a size there.
abbrev pub version : ℕ
version = 7
