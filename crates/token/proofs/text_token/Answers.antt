-- `token::text_token` meets its contract.
use Rattle.token.proofs.Strings.{string}
use Rattle.token.proofs.text_token.Goals as goal

pub returns-then-byte_at-eq34 : goal.returns-then-byte_at-eq34
returns-then-byte_at-eq34 c = search string

pub returns-then-end-s : goal.returns-then-end-s
returns-then-end-s c = search string

pub returns-then-end-i-le-TEXT_BYTES : goal.returns-then-end-i-le-TEXT_BYTES
returns-then-end-i-le-TEXT_BYTES c = search string

pub returns : goal.returns
returns c = search string
