use Rattle.std.proofs.Common.{rules, ◌≡◌, ◌++◌, string_bytes, codes, decimal}
use Rattle.hay_url.specs.Url.{long_hex, cookie_text}
use Rattle.hay_url.proofs.Digits.{short_hex}
use Rattle.hay_url.proofs.Urls.{joined}
use Rattle.hay_url.proofs.text.url_text.Goals as goal

pub returns-clause-ok : goal.returns-clause-ok
returns-clause-ok c =
    let url = c.args.url.now in
    let key : string_bytes c.in_ok-key.key ≡ long_hex url.pair.key = c.in_ok-key.ensures in
    let alt : string_bytes c.in_ok-alt.alt ≡ short_hex url.pair.alt = c.in_ok-alt.ensures in
    let cookie : string_bytes c.in_ok-cookie.cookie ≡ cookie_text url.cookie = c.in_ok-cookie.ensures in
    let text : string_bytes c.in_ok-text.text ≡ codes "http://store/" ++ (decimal url.machine
    ++ (codes "/" ++ (decimal url.volume ++ (codes "," ++ (string_bytes c.in_ok-key.key
    ++ (codes "_" ++ (string_bytes c.in_ok-alt.alt ++ (codes "_" ++ string_bytes c.in_ok-cookie.cookie)))))))) = c.in_ok-text.ensures.ok in
    let all : string_bytes c.push_str.new.self ≡ string_bytes c.args.out.now ++ string_bytes c.in_ok-text.text = search rules in
    rw (all, text, key, alt, cookie, joined (decimal url.machine) (decimal url.volume) (long_hex url.pair.key) (short_hex url.pair.alt) (cookie_text url.cookie))
