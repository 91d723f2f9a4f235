-- The limits of document 01, each said once.
use Rattle.std.specs.Prelude.{ℕ}

-- "A job file has at most 65,535 bytes."
abbrev pub file_bytes : ℕ
file_bytes = 65535

-- "Word: ... 1 to 255 bytes"
abbrev pub word_bytes : ℕ
word_bytes = 255

-- "String: byte 34, then 0 to 255 bytes"
abbrev pub text_bytes : ℕ
text_bytes = 255

-- "Number: 1 to 16 digits in all"
abbrev pub number_digits : ℕ
number_digits = 16

-- "A file is 1 to 64 statements"; P6: "200 statements in a job and 200 commands in a session"
abbrev pub statements : ℕ
statements = 200

-- "command count 1 to 64", and so "n is 1 to 64" in a record; P6: "Both limits go from 64 to 200."
abbrev pub commands : ℕ
commands = 200

-- P6: "from 64", which older host readers and older tables have
abbrev pub older_commands : ℕ
older_commands = 64

-- "MaxSessions is 1 to 32"
abbrev pub sessions : ℕ
sessions = 32

-- "program 1 to 8"
abbrev pub programs : ℕ
programs = 8

-- "class over 99" is refused
abbrev pub class_most : ℕ
class_most = 99

-- "code over 99,999,999" is refused
abbrev pub code_most : ℕ
code_most = 99999999

-- "last ticket is 4,294,967,295"
abbrev pub ticket_most : ℕ
ticket_most = 4294967295

-- P1: "1 to 64 columns"
abbrev pub columns : ℕ
columns = 64

-- ---- Need not be believed: it binds functions inside alone, and no claim cites it

-- P11: "numbers of 1 to 3 digits"
abbrev pub index_digits : ℕ
index_digits = 3
