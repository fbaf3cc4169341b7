mod OneText
