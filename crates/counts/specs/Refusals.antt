-- The refusal numbers of documents 01 and 02 by name, each under its row.
use Rattle.std.specs.Prelude.{ℕ}
use Rattle.counts.specs.declared.Reason.{Reason}
use Rattle.counts.specs.declared.Reason.TheVariants.{FileTooLong, TooFewPlaces, NoToken, Unexpected, NotReal, TooManyStatements, NotARecord, TooLittleRoom, AllTaken, NotTheOne, OutOfRange, NoTicketLeft, Unsound, NothingUnanswered, OpenString, BrokenString, Misshapen, EndOfFile, NotComparable}
use Rattle.counts.specs.declared.Refusal.{Refusal}

-- "job file over 65,535 bytes"
abbrev pub file_too_long : ℕ
file_too_long = 1

-- "legal job file with more statements than the lent offset table has places"
abbrev pub too_few_places : ℕ
too_few_places = 2

-- "the next bytes are no token; place: first of them (a string: its opening quote)"; P2: "3 stays for a byte that starts no token"
abbrev pub no_token : ℕ
no_token = 3

-- "a token [..] that no legal file has after the tokens before it, the byte limit put aside"; P2: "4 stays for a token"
abbrev pub unexpected : ℕ
unexpected = 4

-- "right shape of time or date where one may stand, but not a real one; or a time or date number not real"
abbrev pub not_real : ℕ
not_real = 5

-- "any token after 64 statements"; P6: "6, 7 and 11 move with the limit"
abbrev pub too_many_statements : ℕ
too_many_statements = 6

-- "record field out of range, or bytes that are not a record"; P1: "7, reading with the start of the first line that doesn't fit"; P3: "7 for a number or
-- string that 01 doesn't permit"
abbrev pub not_a_record : ℕ
not_a_record = 7

-- "lent output too short for the whole answer"
abbrev pub too_little_room : ℕ
too_little_room = 8

-- "every session number taken"
abbrev pub all_taken : ℕ
all_taken = 9

-- "ticket, program or command isn't the one this call may name now"
abbrev pub not_the_one : ℕ
not_the_one = 10

-- "a number, offset or file name out of its range"
abbrev pub out_of_range : ℕ
out_of_range = 11

-- "last ticket is 4,294,967,295"
abbrev pub no_ticket_left : ℕ
no_ticket_left = 12

-- "lent session table unsound"
abbrev pub unsound : ℕ
unsound = 13

-- "take up: no unanswered command"
abbrev pub nothing_unanswered : ℕ
nothing_unanswered = 14

-- P2: "a string that meets the end of file first"
abbrev pub open_string : ℕ
open_string = 15

-- P2: "a string that first meets a forbidden byte or its 256th content byte"
abbrev pub broken_string : ℕ
broken_string = 16

-- P2: "an overlong word or misshapen numeric run"
abbrev pub misshapen : ℕ
misshapen = 17

-- P2: "18 is the end of file"
abbrev pub end_of_file : ℕ
end_of_file = 18

-- P3: "19 for number against string or an order between strings"
abbrev pub not_comparable : ℕ
not_comparable = 19

-- the number of a reason
abbrev pub number_of : Reason → ℕ
number_of FileTooLong = file_too_long
number_of TooFewPlaces = too_few_places
number_of NoToken = no_token
number_of Unexpected = unexpected
number_of NotReal = not_real
number_of TooManyStatements = too_many_statements
number_of NotARecord = not_a_record
number_of TooLittleRoom = too_little_room
number_of AllTaken = all_taken
number_of NotTheOne = not_the_one
number_of OutOfRange = out_of_range
number_of NoTicketLeft = no_ticket_left
number_of Unsound = unsound
number_of NothingUnanswered = nothing_unanswered
number_of OpenString = open_string
number_of BrokenString = broken_string
number_of Misshapen = misshapen
number_of EndOfFile = end_of_file
number_of NotComparable = not_comparable

-- "A refusal returns its number, the place for 3 to 6 in a file (else 0)"; P2: "15 to 17 where 3 stood and 18 where 4 did"
abbrev pub refusal : Reason → ℕ → Refusal
refusal reason place = record { reason = reason; place = place }
