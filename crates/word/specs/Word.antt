-- The words of a job file (document 01, "Bytes and tokens", "The job grammar"): where a word ends, and which it is.
use Rattle.std.specs.Prelude.{ℕ, ◌+◌, ◌-◌, Bool, true, false, cond, ◌&&◌, List, [], ◌∷◌, eqb, leb, ltb, length, get_or}
use Rattle.counts.specs.Limits.{word_bytes, index_digits}
use Rattle.field.specs.Bytes.{has_at, ascii}
use Rattle.scan.specs.Kinds.{is_digit, is_word_byte}
use Rattle.scan.specs.Run.{run_end}
use Rattle.word.specs.declared.Word.{Word}
use Rattle.word.specs.declared.Word.TheVariants.{Job, Response, Upload, Download, GetInfo, Abort, Report, Event, Start, Active, Immediate, Other, Name, TimeGe}
use Rattle.std.specs.declared.option.Option.{Option}
use Rattle.std.specs.declared.option.Option.TheVariants.{Some, None}

-- a word and the place after it, or a run that is no word
abbrev pub WordRead : Type 0
WordRead = Option (Word × ℕ)

-- a word by its letters
pub record Spelling : Type 0 where
  pub letters : List ℕ
  pub word : Word

abbrev pub spells : List ℕ → Word → Spelling
spells l w = record { letters = l; word = w }

-- "Reserved: JOB RESPONSE UPLOAD DOWNLOAD GETINFO ABORT REPORT EVENT START STOP ACTIVE TIME IMMEDIATE NEVER."
abbrev pub reserved : List Spelling
reserved =
    spells (ascii "JOB") Job
    ∷ spells (ascii "RESPONSE") Response
    ∷ spells (ascii "UPLOAD") Upload
    ∷ spells (ascii "DOWNLOAD") Download
    ∷ spells (ascii "GETINFO") GetInfo
    ∷ spells (ascii "ABORT") Abort
    ∷ spells (ascii "REPORT") Report
    ∷ spells (ascii "EVENT") Event
    ∷ spells (ascii "START") Start
    ∷ spells (ascii "STOP") Other
    ∷ spells (ascii "ACTIVE") Active
    ∷ spells (ascii "TIME") Other
    ∷ spells (ascii "IMMEDIATE") Immediate
    ∷ spells (ascii "NEVER") Other
    ∷ []

-- "A name is a word that isn't reserved.": which word the n bytes of s from a on are
abbrev pub which_of : List Spelling → List ℕ → ℕ → ℕ → Word
which_of [] s a n = Name
which_of (r ∷ rs) s a n = cond (eqb n (length r.letters) && has_at s a r.letters) r.word (which_of rs s a n)

unfoldable pub which_word : List ℕ → ℕ → ℕ → Word
which_word s a n = which_of reserved s a n

-- "Word: an ASCII letter, then ASCII letters, digits or `_`; 1 to 255 bytes, and a longer run is no token; case counts. `TIME` directly
-- followed by `>=` makes the one token `TIME>=`.": from the letter at i on
unfoldable pub word_read : List ℕ → ℕ → WordRead
word_read s i =
    let e = run_end is_word_byte s i in
    cond (has_at s i (ascii "TIME>=")) (Some (TimeGe, i + 6)) (cond (ltb (i + word_bytes) e) None (Some (which_word s i (e - i), e)))

-- ---- Need not be believed: as code tests it. `reads_report` of the page of claims ties it to `Name`.

-- whether it is a name
abbrev pub is_name : Word → Bool
is_name Job = false
is_name Response = false
is_name Upload = false
is_name Download = false
is_name GetInfo = false
is_name Abort = false
is_name Report = false
is_name Event = false
is_name Start = false
is_name Active = false
is_name Immediate = false
is_name Other = false
is_name Name = true
is_name TimeGe = false

-- ---- Need not be believed: P11, of which no word is read by now, a bracket group and a name with one, as they are found. They bind functions inside alone,
-- and no claim cites them.

-- the place after a group, or no group
abbrev pub GroupRead : Type 0
GroupRead = Option ℕ

-- a number may have n digits
abbrev pub is_index : ℕ → Bool
is_index n = leb 1 n && leb n index_digits

-- a number from j on and the bracket that closes its group
unfoldable pub closed_index : List ℕ → ℕ → GroupRead
closed_index s j =
    let e = run_end is_digit s j in
    cond (is_index (e - j) && eqb (get_or s e 0) 93) (Some (e + 1)) None

-- the group that the bracket at j opens: where a comma follows its first number, a second one closes it
unfoldable pub group_read : List ℕ → ℕ → GroupRead
group_read s j =
    let e = run_end is_digit s (j + 1) in
    cond (is_index (e - (j + 1)) && eqb (get_or s e 0) 44) (closed_index s (e + 1)) (closed_index s (j + 1))

-- a name that begins at i, with its group
abbrev pub indexed : ℕ → GroupRead → WordRead
indexed i (Some e) = cond (ltb (i + word_bytes) e) None (Some (Name, e))
indexed i None = None
