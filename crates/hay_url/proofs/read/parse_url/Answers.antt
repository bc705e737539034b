use Rattle.std.proofs.Common.{◌∙◌, sym}
use Rattle.hay_url.proofs.Urls.{url_text_is, url_of_text, no_url, fault_is}
use Rattle.hay_url.proofs.read.parse_url.Goals as goal

pub returns-in-Ok-clause-url : goal.returns-in-Ok-clause-url
returns-in-Ok-clause-url c = sym (url_text_is c.in-Ok.url) ∙ sym c.in-Ok.ensures.url

pub returns-in-Ok-clause-said : goal.returns-in-Ok-clause-said
returns-in-Ok-clause-said c = url_of_text c.args.text.now c.in-Ok.url c.in-Ok.ensures.fits c.in-Ok.ensures.url

pub returns-in-Err-clause-fault : goal.returns-in-Err-clause-fault
returns-in-Err-clause-fault c = fault_is c.args.text.now c.in-Err.at c.in-Err.ensures.fault

pub returns-in-Err-clause-said : goal.returns-in-Err-clause-said
returns-in-Err-clause-said c = no_url c.args.text.now (fault_is c.args.text.now c.in-Err.at c.in-Err.ensures.fault).none
