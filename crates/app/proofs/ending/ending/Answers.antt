use Rattle.app.proofs.ending.ending.Goals as goal

pub returns-clause-text : goal.returns-clause-text
returns-clause-text g c = (c.told-detail.result, c.told-detail.ensures.told, c.end_with.ensures.text)
