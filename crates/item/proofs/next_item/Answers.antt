-- `item::next_item` meets its contract: an arm for each token.
use native.Mathlib.Omega.{arith}
use Rattle.token.proofs.Ahead.{lies, number_inside, time_inside}
use Rattle.item.specs.Items.{numbered}
use Rattle.item.proofs.Standing.{stood}
use Rattle.item.proofs.next_item.Goals as goal

pub item_of-requires : goal.item_of-requires
unfolding numbered
item_of-requires c = let l = lies _ _ _ _ c.next_token.ensures c.in-End.is in omega arith

pub item_of-requires-in-NoToken : goal.item_of-requires-in-NoToken
unfolding numbered
item_of-requires-in-NoToken c = let l = lies _ _ _ _ c.next_token.ensures c.in-NoToken.is in omega arith

pub item_of-requires-in-Word : goal.item_of-requires-in-Word
unfolding numbered
item_of-requires-in-Word c = let l = lies _ _ _ _ c.next_token.ensures c.in-Word.is in omega arith

pub number_item-requires : goal.number_item-requires
unfolding numbered
number_item-requires c =
    let l = lies _ _ _ _ c.next_token.ensures c.in-Number.is in
    (number_inside _ _ _ _ _ c.next_token.ensures c.in-Number.is, omega arith)

pub time_item-requires : goal.time_item-requires
unfolding numbered
time_item-requires c =
    let l = lies _ _ _ _ c.next_token.ensures c.in-Time.is in
    let m = time_inside _ _ _ _ _ c.next_token.ensures c.in-Time.is in
    omega arith

pub item_of-requires-in-Text : goal.item_of-requires-in-Text
unfolding numbered
item_of-requires-in-Text c = let l = lies _ _ _ _ c.next_token.ensures c.in-Text.is in omega arith

pub sign_item-requires : goal.sign_item-requires
unfolding numbered
sign_item-requires c = let l = lies _ _ _ _ c.next_token.ensures c.in-Sign.is in omega arith

pub item_of-requires-in-Semicolon : goal.item_of-requires-in-Semicolon
unfolding numbered
item_of-requires-in-Semicolon c = let l = lies _ _ _ _ c.next_token.ensures c.in-Semicolon.is in omega arith

pub returns-in-End : goal.returns-in-End
unfolding numbered
returns-in-End c =
    stood _ _ _ c.requires _ _ c.next_token.ensures
    c.in-End.is _ c.item_of.ensures

pub returns-in-NoToken : goal.returns-in-NoToken
unfolding numbered
returns-in-NoToken c =
    stood _ _ _ c.requires _ _ c.next_token.ensures
    c.in-NoToken.is _ c.item_of-in-NoToken.ensures

pub returns-in-Word : goal.returns-in-Word
unfolding numbered
returns-in-Word c =
    stood _ _ _ c.requires _ _ c.next_token.ensures
    c.in-Word.is _ (rw (← c.into.ensures) c.item_of-in-Word.ensures)

pub returns-in-Number : goal.returns-in-Number
unfolding numbered
returns-in-Number c =
    stood _ _ _ c.requires _ _ c.next_token.ensures
    c.in-Number.is _ c.number_item.ensures

pub returns-in-Time : goal.returns-in-Time
unfolding numbered
returns-in-Time c =
    stood _ _ _ c.requires _ _ c.next_token.ensures
    c.in-Time.is _ c.time_item.ensures

pub returns-in-Text : goal.returns-in-Text
unfolding numbered
returns-in-Text c =
    stood _ _ _ c.requires _ _ c.next_token.ensures
    c.in-Text.is _ c.item_of-in-Text.ensures

pub returns-in-Sign : goal.returns-in-Sign
unfolding numbered
returns-in-Sign c =
    stood _ _ _ c.requires _ _ c.next_token.ensures
    c.in-Sign.is _ c.sign_item.ensures

pub returns-in-Semicolon : goal.returns-in-Semicolon
unfolding numbered
returns-in-Semicolon c =
    stood _ _ _ c.requires _ _ c.next_token.ensures
    c.in-Semicolon.is _ c.item_of-in-Semicolon.ensures
