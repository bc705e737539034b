use Rattle.std.proofs.Common.{◌≡◌, ◌++◌, string_bytes, codes, ap, subst, ◌∙◌}
use Rattle.std.specs.Prelude.{OnOk}
use Rattle.hay_url.specs.Url.{url_text}
use Rattle.hay_reply.specs.Replies.{field}
use Rattle.hay_reply.proofs.Joins.{join_three}
use Rattle.hay_reply.proofs.write.write_reply.Goals as goal

pub returns-in-WrongCookie : goal.returns-in-WrongCookie
returns-in-WrongCookie c = rw c.in-WrongCookie.is c.write_sight-in-WrongCookie.ensures

pub returns-in-ReadOnlyDir : goal.returns-in-ReadOnlyDir
returns-in-ReadOnlyDir c = rw c.in-ReadOnlyDir.is c.write_word.ensures

pub returns-in_ok-push_str-in-Url : goal.returns-in_ok-push_str-in-Url
returns-in_ok-push_str-in-Url c =
    let a = c.in-Url in
    let out = string_bytes c.args.out.now in
    let head : string_bytes c.write_one-in-Url.new.out ≡ out ++ (codes "url" ++ field a.rows) = c.in_ok-write_one-in-Url.ensures in
    let space : string_bytes c.push_str-in-Url.new.self ≡ string_bytes c.write_one-in-Url.new.out ++ codes " " = c.in_ok-push_str-in-Url.ensures.bytes in
    rw c.in-Url.is (subst (λ t. OnOk c.url_text.result (string_bytes c.url_text.new.out ≡ t))
    (ap (λ t. t ++ url_text a.url) (space ∙ ap (λ t. t ++ codes " ") head) ∙ join_three out (codes "url" ++ field a.rows) (codes " ") (url_text a.url))
    c.url_text.ensures.ok)
