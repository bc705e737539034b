-- Do the grammar and the texts compute?
use Rattle.std.specs.Prelude.{◌≡◌, [], ◌∷◌, codes, replicate, refl, Some, None}
use Rattle.hex.specs.Hex.{decode_pairs, encode_with}
use Rattle.std.specs.Fmt.{digits}
use Rattle.hay_script.specs.declared.Command.TheVariants as command
use Rattle.hay_url.specs.Url.{url_of}
use Rattle.hay_legal.specs.declared.turn.Item.TheVariants as item
use Rattle.hay_legal.specs.Items.{items_of}
use Rattle.hay_legal.specs.Items.Asked.{Alone, Block}
use Rattle.hay_reply.specs.Replies.{reply_text, numbered_line}
use Rattle.hay_reply.specs.declared.Reply.TheVariants as reply
use Rattle.hay_reply.specs.declared.Refused.TheVariants.{NoRoom, Closed}

first_items : items_of (codes "put 0 1 68656c6c6f\nread 0 1 903df1a0ade0b876") ≡
    Alone 1 (item.Command (command.Put (record { key = 0; alt = 1 }) (codes "hello")))
    ∷ Alone 2 (item.Command (command.Read (record { key = 0; alt = 1 }) (record { 0 = 0x903df1a0ade0b876 })))
    ∷ []
unfolding decode_pairs
first_items = refl

-- bad lines, skipped lines, and what no block holds
bad_items : items_of (codes "# note\n\nput 0 1 6\nput 18446744073709551616 1 61\r\nend\nPUT 0 1 61\nput 0 1 61\r\nlanes 9\n") ≡
    Alone 3 item.Bad ∷ Alone 4 item.Bad ∷ Alone 5 item.Bad ∷ Alone 6 item.Bad
    ∷ Alone 7 (item.Command (command.Put (record { key = 0; alt = 1 }) (97 ∷ [])))
    ∷ Alone 8 item.Bad ∷ []
unfolding decode_pairs
bad_items = refl

-- a block with a bad line and a skipped one, closed by the script's end
block_items : items_of (codes "lanes 2\n0 del 0 1\n2 del 0 1\n\n1 flush 0 0\nrestart\nlanes 2") ≡
    Block (
    record { line = 2; lane = 0; item = item.Command (command.Del (record { key = 0; alt = 1 })) }
    ∷ record { line = 3; lane = 0; item = item.Bad }
    ∷ record { line = 5; lane = 1; item = item.Command (command.Flush 0 0) }
    ∷ record { line = 6; lane = 0; item = item.Bad }
    ∷ record { line = 7; lane = 0; item = item.Bad }
    ∷ []) ∷ []
block_items = refl

url_read : url_of (codes "http://store/2/2,0200000000000000_00000001_3736d58c374dc6c2") ≡
    Some (record { machine = 2; volume = 2; pair = record { key = 144115188075855872; alt = 1 }; cookie = record { 0 = 0x3736d58c374dc6c2 } })
unfolding encode_with digits
url_read = refl

url_refused : url_of (codes "http://store/02/2,0200000000000000_00000001_3736d58c374dc6c2") ≡ None
unfolding encode_with digits
url_refused = refl

full_text : numbered_line 5 (reply.Full (NoRoom 0 0 4088 4024 ∷ Closed 1 0 ∷ [])) ≡ codes "5 full 0:0:4088:4024 1:0:ro\n"
unfolding digits
full_text = refl

photo_text : reply_text (reply.Photo 0 0 2 2 (replicate 200 97)) ≡ codes "photo 0 0 2 2 x200:61"
unfolding encode_with digits
photo_text = refl
